use Rattle.std.proofs.Common.{◌≡◌, ◌∙◌, sym, ap, refl, nat_le, true, le-leb, Some, arith}
use Rattle.desij_words.proofs.WordLemmas.{up_to, number-parsed}
use Rattle.desij_words.proofs.words.word.number.Goals as goal

pub returns-in_default : goal.returns-in_default
returns-in_default c =
    sym (ap (up_to c.args.most) c.in_default.is)
    ∙ number-parsed c.args.word.now c.args.most c.parse.result (omega (arith, c.ranges.most)) (sym c.begins_number.ensures ∙ c.if-not-begins_number.false) c.parse.ensures.value.0

pub returns-then-number-most : goal.returns-then-number-most
returns-then-number-most c =
    let small : nat_le c.in-Ok.number c.args.most ≡ true = le-leb c.in-Ok.number c.args.most c.if-number-most.true in
    let kept : up_to c.args.most c.parse.result ≡ Some c.in-Ok.number = rw (c.in-Ok.is, small) refl in
    sym kept
    ∙ number-parsed c.args.word.now c.args.most c.parse.result (omega (arith, c.ranges.most)) (sym c.begins_number.ensures ∙ c.if-not-begins_number.false) c.parse.ensures.value.0
