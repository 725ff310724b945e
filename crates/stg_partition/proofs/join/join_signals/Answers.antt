use Rattle.std.proofs.Common.{◌≡◌, ◌∙◌, ℕ, List, Option, None, length, All, ap, sym, subst, inl, inr}
use Rattle.std.specs.List.{range_with_len}
use Rattle.std.proofs.lemmas.Bool.{cases_lt}
use Rattle.std.proofs.lemmas.List.{get_or_past}
use Rattle.stg_net.specs.declared.signal.Signal.{Signal}
use Rattle.stg_partition.proofs.Leading.{joining_none}
use Rattle.stg_partition.proofs.join.join_signals.Goals as goal

pub join_all-requires : goal.join_all-requires
join_all-requires c =
    let leaders = c.as_mut_slice.ensures.value ∙ c.into_vec-leaders.ensures ∙ c.in_ok-numbers_below.ensures ∙ ap (λ (xs : List Signal). range_with_len 0 (length xs)) c.signals.ensures.signals in
    let All_none : List (Option ℕ) → Type 0 = λ xs. All (λ taker. taker ≡ None) xs in
    let none = subst All_none (sym c.as_mut_slice-2.ensures.value) c.in_ok-takers.ensures.none in
    let wide = ap (λ (xs : List (Option ℕ)). length xs) c.as_mut_slice-2.ensures.value ∙ c.in_ok-takers.ensures.long ∙ ap (λ (xs : List ℕ). length xs) c.tokens.ensures.tokens in
    joining_none c.args.net.now c.as_mut_slice.result.now c.as_mut_slice-2.result.now leaders wide
    (λ p. elim (cases_lt p (length c.as_mut_slice-2.result.now)) [ inl h ↦ none p None h | inr h ↦ get_or_past c.as_mut_slice-2.result.now p None h ])
