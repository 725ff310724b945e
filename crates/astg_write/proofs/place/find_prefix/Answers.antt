use Rattle.std.proofs.Common.{◌≡◌, ◌+◌, ℕ, true, length, ap, sym, subst, ◌∙◌, arith}
use Rattle.std.specs.Prelude.{IfOk, List}
use Rattle.astg_write.specs.PlaceNames.{is_free, place_prefix, prefix_text}
use Rattle.astg_write.proofs.Prefixes.{place_prefix_first, place_prefix_last}
use Rattle.astg_write.proofs.place.find_prefix.Goals as goal

pub returns-then-is_free : goal.returns-then-is_free
returns-then-is_free c =
    let signals = c.args.signals.now in
    let free : is_free signals c.in_ok-prefix.prefix ≡ true =
    sym (c.is_free.ensures ∙ ap (is_free signals) c.as_slice.ensures) ∙ c.if-is_free.true in
    let none = c.loop-number.invariant in
    sym (place_prefix_first signals c.loop-number.number c.in_ok-prefix.prefix (omega arith) none c.in_ok-prefix.ensures free)

pub returns : goal.returns
returns c =
    let signals = c.args.signals.now in
    let last : place_prefix signals ≡ prefix_text (length signals + 2) =
    place_prefix_last signals (λ k below. c.loop-number.invariant k (omega arith)) in
    subst (λ (p : List ℕ). IfOk c.make_prefix-2.result (λ text. text ≡ p)) (sym last) c.make_prefix-2.ensures
