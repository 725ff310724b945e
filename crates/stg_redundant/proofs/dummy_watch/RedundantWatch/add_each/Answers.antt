use Rattle.std.proofs.Common.{◌<◌, length, get_or, refl, sym, subst, inl, inr, arith}
use Rattle.std.proofs.lemmas.List.{get_or_default}
use Rattle.stg_redundant.specs.FlaggedDummies.{IsFlaggedWithSame}
use Rattle.stg_contract.proofs.WatchAdds.{from_split, from_all}
use Rattle.stg_redundant.proofs.FlagAdds.{flags-trans, same_later}
use Rattle.stg_redundant.proofs.dummy_watch.RedundantWatch.add_each.Goals as goal

pub loop-v-init : goal.loop-v-init
loop-v-init c = record {
  kept = record { as_long = refl; kept = λ t f. f };
  added = λ v h. inl ((from_all c.args.trans.now v).1 h);
}

pub loop-v-preserved : goal.loop-v-preserved
loop-v-preserved c =
    let g = c.args.editor.now.now in
    let trans = c.args.trans.now in
    let k = c.loop-v.v-index in
    let i = c.loop-v.invariant in
    let low : k < length trans = c.loop-v-test.true in
    let x = get_or trans k 0 in
    let is = get_or_default trans k x 0 low in
    let now = c.loop-v.self in
    let new = c.add_redundant.new.watch in
    let more = c.add_redundant.ensures.kept in
    record {
      kept = flags-trans c.args.self.now now new i.kept more;
      added = λ v h. elim (i.added v h) [
        | inr done ↦ inr (same_later g now new more v done)
        | inl left ↦ elim ((from_split trans k x low is v).0 left) [
          | inl here ↦ inr (subst (IsFlaggedWithSame g new) (sym here) c.in_ok-add_redundant.ensures.added)
          | inr later ↦ inl later
        ]
      ];
    }

pub returns-clause-added : goal.returns-clause-added
returns-clause-added c v h = elim (c.loop-v.invariant.added v h) [
  | inl left ↦ absurd (omega (arith, left.1, left.2, c.loop-v-test.false))
  | inr done ↦ done
]
