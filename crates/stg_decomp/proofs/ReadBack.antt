-- The nets of the parts are read back from their texts.
use Rattle.std.proofs.Common.{◌≡◌, ℕ, ◌+◌, ◌<◌, ◌≤◌, List, length, get_or, All, zero-add, sym, ◌∙◌, ap, subst, arith}
use Rattle.std.specs.List.{range_with_len}
use Rattle.std.proofs.lemmas.List.{length-map, get_or-map as get_or-map_in}
use Rattle.std.proofs.lemmas.List.FromFn.{length-map-range_with_len, get_or-map-range_with_len}
use Rattle.stg_net.specs.Component.{component}
use Rattle.stg_net.specs.Net.{NetLists, IsNet}
use Rattle.stg_net.specs.Ordered.{ordered}
use Rattle.astg_write.specs.ReadsBack.{AreReadBack}
use Rattle.astg_write.specs.Writable.{IsWritable}
use Rattle.astg_write.proofs.WrittenBack.{component-reads_back}
use Rattle.stg_laws.specs.PlainGroups.{Group}
use Rattle.stg_derive.specs.declared.part.Part.{Part}
use Rattle.stg_crew.specs.Parts.{no_part, part_at}
use Rattle.stg_decomp.specs.Settled.{shared_in, settled_part, settled_parts}
use Rattle.stg_decomp.specs.Parts.{ArePartsOf, nets_of}

-- what is put in order for the i-th part
abbrev component_of : List Part → ℕ → NetLists
component_of derived i = let m = (part_at derived i).net in component (range_with_len 0 (length m.signals)) (shared_in derived i) m

-- each part's net is that in order
net-ordered : (derived : List Part) (k : ℕ) (none : NetLists) → k < length derived → get_or (nets_of (settled_parts derived)) k none ≡ ordered (component_of derived k)
net-ordered derived k none below =
    let there : k < length (settled_parts derived) = omega (arith, below, length-map-range_with_len (settled_part derived) 0 (length derived)) in
    get_or-map_in (λ (p : Part). p.net) (settled_parts derived) k no_part none there
    ∙ ap (λ (p : Part). p.net) (get_or-map-range_with_len (settled_part derived) 0 (length derived) k k no_part below (zero-add k))

-- parts whose nets can be written are read back
pub parts_are_read_back : (n : NetLists) (groups : List Group) (parts : List Part) → ArePartsOf n groups parts → All IsNet (nets_of parts) → All (λ (p : Part). IsWritable p.net) parts → length parts ≤ 250 → AreReadBack (nets_of parts)
parts_are_read_back n groups parts are nets writable few k none there =
    let parts_there : k < length parts = omega (arith, there, length-map parts (λ (p : Part). p.net)) in
    let below : k < length are.derived = omega (arith, parts_there, ap (λ (ps : List Part). length ps) are.are_settled, length-map-range_with_len (settled_part are.derived) 0 (length are.derived)) in
    let same : get_or (nets_of parts) k none ≡ (get_or parts k no_part).net = get_or-map_in (λ (p : Part). p.net) parts k no_part none parts_there in
    let can : IsWritable (get_or (nets_of parts) k none) = subst IsWritable (sym same) (writable k no_part parts_there) in
    let made : get_or (nets_of parts) k none ≡ ordered (component_of are.derived k) = ap (λ (ps : List Part). get_or (nets_of ps) k none) are.are_settled ∙ net-ordered are.derived k none below in
    component-reads_back (get_or (nets_of parts) k none) (nets k none there) can (k + 1) (omega (arith, few, parts_there)) (component_of are.derived k) made
