use Rattle.std.proofs.Common.{◌≤◌, subst, arith}
use Rattle.stg_net.specs.Contraction.{contracted}
use Rattle.stg_contract.specs.inner.Searches.{IsLeastClashOf}
use Rattle.stg_contract.specs.Verdicts.{count_places, most_places}
use Rattle.stg_contract.proofs.judge.find_reason.Goals as goal

pub returns-in-Some : goal.returns-in-Some
returns-in-Some c = (c.requires.contraction, subst (IsLeastClashOf (contracted c.args.editor.now.now c.args.t)) c.in-Some.is c.find_clash.ensures)

pub returns-then-places-most_places : goal.returns-then-places-most_places
returns-then-places-most_places c = record {
  contraction = c.requires.contraction;
  no_conflict = subst (IsLeastClashOf (contracted c.args.editor.now.now c.args.t)) c.in-None.is c.find_clash.ensures;
  many_places = omega (arith, c.if-places-most_places.true, c.count_places-places.ensures, c.most_places.ensures.value);
  number = omega (arith, c.min.ensures, c.count_places-places.ensures);
}

pub returns-then-is_large : goal.returns-then-is_large
returns-then-is_large c =
    let g = c.args.editor.now.now in
    let t = c.args.t in
    let few : count_places (contracted g t) ≤ most_places g = omega (arith, c.if-places-most_places.false, c.count_places-places.ensures, c.most_places.ensures.value, c.most_places.ensures.few) in
    record {
      contraction = c.requires.contraction;
      no_conflict = subst (IsLeastClashOf (contracted g t)) c.in-None.is c.find_clash.ensures;
      few_places = few;
      not_within = c.is_large.ensures.large c.if-is_large.true;
    }

pub returns : goal.returns
returns c =
    let g = c.args.editor.now.now in
    let t = c.args.t in
    let few : count_places (contracted g t) ≤ most_places g = omega (arith, c.if-places-most_places.false, c.count_places-places.ensures, c.most_places.ensures.value, c.most_places.ensures.few) in
    record {
      contraction = c.requires.contraction;
      no_conflict = subst (IsLeastClashOf (contracted g t)) c.in-None.is c.find_clash.ensures;
      few_places = few;
      within = c.is_large.ensures.within c.if-is_large.false;
    }
