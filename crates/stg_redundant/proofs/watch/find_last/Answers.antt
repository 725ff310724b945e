use Rattle.std.proofs.Common.{◌≡◌, ◌-◌, ℕ, List, length, take, slice_get, Option, Some, None, inl, sym, ap, ◌∙◌, subst}
use Rattle.std.specs.List.Sorted.{IsStrictlyIncreasing}
use Rattle.stg_redundant.specs.Watching.{KeepsRedundant, HasNoneBesides}
use Rattle.stg_redundant.specs.inner.Searches.{IsPlaceRuleOf}
use Rattle.stg_redundant.proofs.WatchLists.{take_ascends, take_has, last_is_greatest, none_without_last, keeps_without_last, still_watched}
use Rattle.stg_redundant.proofs.watch.find_last.Goals as goal

-- the last of a list is that of an equal one
last_in : (xs ys : List ℕ) (o : Option ℕ) → ys ≡ xs → slice_get ys (length ys - 1) ≡ o
    → slice_get xs (length xs - 1) ≡ o
last_in xs ys o same last = subst (λ (zs : List ℕ). slice_get zs (length zs - 1) ≡ o) same last

pub loop-p-init : goal.loop-p-init
loop-p-init c = record {
  kept = λ p h. inl h;
  dropped = λ p h. h;
  ascending = c.requires.ascending;
  long = c.requires.rooms;
}

pub returns-in-Some-2-clause-value : goal.returns-in-Some-2-clause-value
returns-in-Some-2-clause-value c =
    let g = c.args.editor.now.now in
    let xs = c.loop-p.numbers.items in
    let p = c.in-Some.p in
    let last = last_in xs c.deref.result.now (Some p) c.deref.ensures.value (sym c.last_of.ensures ∙ c.in-Some.is) in
    let watched = still_watched g c.args.numbers.now.items xs c.loop-p.invariant.kept c.requires.watched in
    (subst (IsPlaceRuleOf g p) c.in-Some-2.is c.in_ok-rule.ensures.value, λ q redundant. last_is_greatest xs p q c.loop-p.invariant.ascending last (watched q redundant))

pub loop-p-preserved : goal.loop-p-preserved
loop-p-preserved c =
    let g = c.args.editor.now.now in
    let first = c.args.numbers.now.items in
    let xs = c.loop-p.numbers.items in
    let p = c.in-Some.p in
    let last = last_in xs c.deref.result.now (Some p) c.deref.ensures.value (sym c.last_of.ensures ∙ c.in-Some.is) in
    let idle = subst (IsPlaceRuleOf g p) c.in-None.is c.in_ok-rule.ensures.value in
    let rest = sym (c.pop.ensures.rest ∙ ap (λ (n : ℕ). take (n - 1) xs) c.loop-p.numbers.ok.0) in
    record {
      kept = subst (KeepsRedundant g first) rest (keeps_without_last g first xs p last idle c.loop-p.invariant.kept);
      dropped = subst (HasNoneBesides first) rest (λ q h. c.loop-p.invariant.dropped q (take_has (length xs - 1) xs q h));
      ascending = subst IsStrictlyIncreasing rest (take_ascends (length xs - 1) xs c.loop-p.invariant.ascending);
      long = c.rule_at.ensures.len ∙ c.loop-p.invariant.long;
    }

pub returns-clause-value : goal.returns-clause-value
returns-clause-value c q redundant =
    let g = c.args.editor.now.now in
    let xs = c.loop-p.numbers.items in
    let none = last_in xs c.deref.result.now None c.deref.ensures.value (sym c.last_of.ensures ∙ c.in_default.is) in
    none_without_last xs q none (still_watched g c.args.numbers.now.items xs c.loop-p.invariant.kept c.requires.watched q redundant)
