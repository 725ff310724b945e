-- Plain groups know signals of the net alone.
use Rattle.std.proofs.Common.{◌<◌, List, length, get_or, All, subst, sym}
use Rattle.stg_net.specs.Net.{NetLists}
use Rattle.stg_laws.specs.Groups.{is_known_to}
use Rattle.stg_laws.specs.PlainGroups.{Group, ArePlainGroups}
use Rattle.stg_partition.proofs.Numbers.{numbers_pass}
use Rattle.stg_crew.specs.Parts.{AreKnownInRange}

pub plain_in_range : (n : NetLists) (groups : List Group) → ArePlainGroups n groups → AreKnownInRange n groups
plain_in_range n groups plain i d there =
    let g = get_or groups i d in
    subst (All (λ s. s < length n.signals)) (sym (plain.known i d there)) (λ k e low. (numbers_pass (is_known_to n g.own) (length n.signals) k e low).below)
