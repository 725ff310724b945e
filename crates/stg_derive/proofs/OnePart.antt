-- A group has at most one part.
use Rattle.std.proofs.Common.{◌≡◌, List, ap, ◌∙◌, sym, subst}
use Rattle.stg_edit.specs.Compacted.{IsNetOf}
use Rattle.stg_derive.specs.declared.step.Step.{Step}
use Rattle.stg_derive.specs.declared.part.Restore.{Restore}
use Rattle.stg_derive.specs.Derivations.{with_restored, last_draft}
use Rattle.stg_derive.specs.Laws.{PartIsOne}
use Rattle.stg_derive.proofs.OneDerivation.{derivation_is_one}
use Rattle.stg_derive.proofs.OneNet.{net_is_one}

pub part_is_one : PartIsOne
part_is_one n group a b a_net b_net x y =
    let same = derivation_is_one n group.known a.restored b.restored a.steps b.steps x.derivation y.derivation in
    let restored : a.restored ≡ b.restored = same.0 in
    let steps : a.steps ≡ b.steps = same.1 in
    let P : List Restore → Type 0 = λ rs. IsNetOf n.signals (last_draft n group.known rs a.steps) group.own a.net in
    let Q : List Step → Type 0 = λ ss. IsNetOf n.signals (last_draft n group.known b.restored ss) group.own a.net in
    let here : IsNetOf n.signals (last_draft n group.known b.restored b.steps) group.own a.net = subst Q steps (subst P restored x.net_is) in
    record {
      net = net_is_one n (last_draft n group.known b.restored b.steps) group.own a.net b.net a_net b_net here y.net_is;
      own = x.own_is ∙ sym y.own_is;
      known = x.known_is ∙ ap (with_restored n group.known) restored ∙ sym y.known_is;
      restored = restored;
      steps = steps;
    }
