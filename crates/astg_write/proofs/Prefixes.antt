-- The number of the first free prefix.
use Rattle.std.proofs.Common.{◌≡◌, ℕ, ◌+◌, ◌<◌, ◌≤◌, true, false, List, length, get_or, ap, sym, ◌∙◌, arith}
use Rattle.std.specs.List.{range_with_len}
use Rattle.std.proofs.lemmas.List.FromFn.{get_or-range_with_len, length-range_with_len}
use Rattle.std.proofs.lemmas.List.Sums.{position_or_len_is}
use Rattle.stg_net.specs.declared.signal.Signal.{Signal}
use Rattle.astg_write.specs.PlaceNames.{is_free, prefix_text, prefix_number, place_prefix}

-- a number below n stands at itself
get_or-numbers : (n k : ℕ) → k < n → get_or (range_with_len 0 n) k 0 ≡ k
get_or-numbers n k below = omega (arith, get_or-range_with_len 0 n k 0 below)

-- free at i and not before, or nowhere and at the end
prefix_number_is : (signals : List Signal) (i : ℕ)
    → i ≤ length signals + 2
    → ((k : ℕ) → k < i → is_free signals (prefix_text k) ≡ false)
    → (i < length signals + 2 → is_free signals (prefix_text i) ≡ true)
    → prefix_number signals ≡ i
prefix_number_is signals i within none free =
    let n : ℕ = length signals + 2 in
    let free_at = λ (k : ℕ). is_free signals (prefix_text k) in
    position_or_len_is free_at (range_with_len 0 n) i 0
    (omega (arith, length-range_with_len 0 n))
    (λ k below. ap free_at (get_or-numbers n k (omega arith)) ∙ none k below)
    (λ inside. let here : i < n = omega (arith, length-range_with_len 0 n) in ap free_at (get_or-numbers n i here) ∙ free here)

-- a free one with none before it is the first one
pub place_prefix_first : (signals : List Signal) (i : ℕ) (prefix : List ℕ)
    → i < length signals + 2
    → ((k : ℕ) → k < i → is_free signals (prefix_text k) ≡ false)
    → prefix ≡ prefix_text i
    → is_free signals prefix ≡ true
    → place_prefix signals ≡ prefix
place_prefix_first signals i prefix within none is free =
    let first : prefix_number signals ≡ i = prefix_number_is signals i (omega arith) none (λ _. sym (ap (is_free signals) is) ∙ free) in
    ap prefix_text first ∙ sym is

-- where none is free it is the one past the end
pub place_prefix_last : (signals : List Signal)
    → ((k : ℕ) → k < length signals + 2 → is_free signals (prefix_text k) ≡ false)
    → place_prefix signals ≡ prefix_text (length signals + 2)
place_prefix_last signals none =
    ap prefix_text (prefix_number_is signals (length signals + 2) (omega arith) none (λ past. absurd (omega (arith, past))))
