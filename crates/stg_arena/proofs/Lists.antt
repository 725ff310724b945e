-- Lists made of functions.
use Rattle.std.proofs.Common.{◌≡◌, ℕ, ◌<◌, map, sym, ◌∙◌, zero-add}
use Rattle.std.specs.List.{range_with_len}
use Rattle.std.proofs.lemmas.List.{same_lists}
use Rattle.std.proofs.lemmas.List.FromFn.{length-map-range_with_len, get_or-map-range_with_len}

-- two lists made of functions that agree
pub same_map : {X : Type 0} (f h : ℕ → X) (n : ℕ) → ((k : ℕ) → k < n → f k ≡ h k) → map f (range_with_len 0 n) ≡ map h (range_with_len 0 n)
same_map f h n same = same_lists _ _ (length-map-range_with_len f 0 n ∙ sym (length-map-range_with_len h 0 n))
    (λ k d l. let in_range : k < n = rw (← length-map-range_with_len f 0 n) l in
    get_or-map-range_with_len f 0 n k k d in_range (zero-add k) ∙ same k in_range ∙ sym (get_or-map-range_with_len h 0 n k k d in_range (zero-add k)))
