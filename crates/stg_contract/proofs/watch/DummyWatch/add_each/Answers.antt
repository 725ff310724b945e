use Rattle.std.proofs.Common.{◌<◌, length, get_or, refl, sym, subst, inl, inr, arith}
use Rattle.std.proofs.lemmas.List.{get_or_default}
use Rattle.stg_contract.specs.WatchedDummies.{IsWeighed}
use Rattle.stg_contract.proofs.WatchAdds.{weighs-trans, weighed_later, from_split, from_all}
use Rattle.stg_contract.proofs.watch.DummyWatch.add_each.Goals as goal

pub loop-u-init : goal.loop-u-init
loop-u-init c = record {
  kept = record { as_long = refl; kept = λ v. inl refl };
  weighed = λ v h. inl ((from_all c.args.trans.now v).1 h);
}

pub loop-u-preserved : goal.loop-u-preserved
loop-u-preserved c =
    let g = c.args.editor.now.now in
    let trans = c.args.trans.now in
    let k = c.loop-u.u-index in
    let i = c.loop-u.invariant in
    let low : k < length trans = c.loop-u-test.true in
    let x = get_or trans k 0 in
    let is = get_or_default trans k x 0 low in
    let now = c.loop-u.self in
    let new = c.weigh.new.self in
    let more = c.weigh.ensures.kept in
    record {
      kept = weighs-trans g c.args.self.now now new i.kept more;
      weighed = λ v h. elim (i.weighed v h) [
        | inr done ↦ inr (weighed_later g now new v more done)
        | inl left ↦ elim ((from_split trans k x low is v).0 left) [
          | inl here ↦ inr (subst (IsWeighed g new) (sym here) c.in_ok-weigh.ensures.weighed)
          | inr later ↦ inl later
        ]
      ];
    }

pub returns-clause-weighed : goal.returns-clause-weighed
returns-clause-weighed c v h = elim (c.loop-u.invariant.weighed v h) [
  | inl left ↦ absurd (omega (arith, left.1, left.2, c.loop-u-test.false))
  | inr done ↦ done
]
