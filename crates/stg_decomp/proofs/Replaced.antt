-- The parts with their settled nets.
use Rattle.std.proofs.Common.{◌≡◌, ℕ, zero, suc, ◌+◌, ◌<◌, ◌≤◌, List, [], ◌∷◌, map, length, get_or, All, zero-add, refl, sym, ap, ◌∙◌, subst, arith}
use Rattle.std.specs.List.{range_with_len}
use Rattle.std.proofs.lemmas.List.Elements.{All-map}
use Rattle.std.proofs.lemmas.List.FromFn.{fill_by_all, get_or-map-range_with_len, length-range_with_len, get_or-range_with_len, length-map-range_with_len}
use Rattle.stg_net.specs.Net.{NetLists}
use Rattle.astg_write.specs.Writable.{IsWritable}
use Rattle.stg_derive.specs.declared.part.Part.{Part}
use Rattle.stg_derive.specs.Loggable.{IsLoggable}
use Rattle.stg_crew.specs.Parts.{no_part, part_at}
use Rattle.stg_decomp.specs.Settled.{settled_part, settled_parts}
use Rattle.stg_decomp.specs.inner.Settling.{with_net, parts_with_nets}
use Rattle.stg_decomp.specs.Parts.{net_at}

range_agree : (f h : ℕ → Part) (n a : ℕ) → ((i : ℕ) → a ≤ i → i < a + n → f i ≡ h i) → map f (range_with_len a n) ≡ map h (range_with_len a n)
range_agree f h zero a same = refl
range_agree f h (suc n) a same = λ k. same a (omega arith) (omega arith) k ∷ range_agree f h n (a + 1) (λ i l m. same i (omega arith) (omega arith)) k

pub nets_long : (derived : List Part) (nets : List NetLists) → nets ≡ map (λ i. (settled_part derived i).net) (range_with_len 0 (length derived)) → length nets ≡ length derived
nets_long derived nets e = ap (λ (ms : List NetLists). length ms) e ∙ length-map-range_with_len (λ i. (settled_part derived i).net) 0 (length derived)

parts_with_nets-here : (derived : List Part) (nets : List NetLists) (i : ℕ) → length nets ≡ length derived → i < length derived → get_or (parts_with_nets derived nets) i no_part ≡ with_net (part_at derived i) (net_at nets i)
parts_with_nets-here [] nets i long below = absurd (omega arith)
parts_with_nets-here (p ∷ derived) [] i long below = absurd (omega (arith, long))
parts_with_nets-here (p ∷ derived) (m ∷ nets) zero long below = refl
parts_with_nets-here (p ∷ derived) (m ∷ nets) (suc i) long below = parts_with_nets-here derived nets i (omega (arith, long)) (omega (arith, below))

length-parts_with_nets : (derived : List Part) (nets : List NetLists) → length nets ≡ length derived → length (parts_with_nets derived nets) ≡ length derived
length-parts_with_nets [] nets long = refl
length-parts_with_nets (p ∷ derived) [] long = absurd (omega (arith, long))
length-parts_with_nets (p ∷ derived) (m ∷ nets) long = let e = length-parts_with_nets derived nets (omega (arith, long)) in omega (arith, e)

parts_with_nets-at : (derived : List Part) (nets : List NetLists) → length nets ≡ length derived → parts_with_nets derived nets ≡ map (λ i. with_net (part_at derived i) (net_at nets i)) (range_with_len 0 (length derived))
parts_with_nets-at derived nets long =
    fill_by_all (λ i. with_net (part_at derived i) (net_at nets i)) (parts_with_nets derived nets) (length derived) no_part (length-parts_with_nets derived nets long) (λ i below. parts_with_nets-here derived nets i long below)

pub replaced_settled : (derived parts : List Part) (nets : List NetLists) → nets ≡ map (λ i. (settled_part derived i).net) (range_with_len 0 (length derived))
    → parts ≡ parts_with_nets derived nets → parts ≡ settled_parts derived
replaced_settled derived parts nets e f =
    f ∙ parts_with_nets-at derived nets (nets_long derived nets e) ∙ range_agree (λ i. with_net (part_at derived i) (net_at nets i)) (settled_part derived) (length derived) 0 (λ i l m.
    let below : i < length derived = omega (arith, m) in
    let at : net_at nets i ≡ (settled_part derived i).net = ap (λ ms. net_at ms i) e ∙ get_or-map-range_with_len (λ k. (settled_part derived k).net) 0 (length derived) i i (net_at [] 0) below (zero-add i) in
    ap (with_net (part_at derived i)) at)

pub settled_writable : (derived parts : List Part) (nets : List NetLists) → All IsWritable nets → length nets ≡ length derived
    → parts ≡ parts_with_nets derived nets → All (λ (p : Part). IsWritable p.net) parts
settled_writable derived parts nets all long f =
    let P : Part → Type 0 = λ p. IsWritable p.net in
    subst (All P) (sym (f ∙ parts_with_nets-at derived nets long)) (All-map P (λ i. with_net (part_at derived i) (net_at nets i)) (range_with_len 0 (length derived)) (λ k d below.
    let there : k < length derived = omega (arith, below, length-range_with_len 0 (length derived)) in
    let at : get_or (range_with_len 0 (length derived)) k d ≡ k = omega (arith, get_or-range_with_len 0 (length derived) k d there) in
    subst (λ i. IsWritable (net_at nets i)) (sym at) (all k (net_at [] 0) (omega (arith, there, long)))))

-- settling leaves the records and the steps
pub settled_loggable : (n : NetLists) (derived : List Part) → All (IsLoggable n) derived → All (IsLoggable n) (settled_parts derived)
settled_loggable n derived all =
    All-map (IsLoggable n) (settled_part derived) (range_with_len 0 (length derived)) (λ k d below.
    let there : k < length derived = omega (arith, below, length-range_with_len 0 (length derived)) in
    let at : get_or (range_with_len 0 (length derived)) k d ≡ k = omega (arith, get_or-range_with_len 0 (length derived) k d there) in
    let one = all k no_part there in
    subst (λ i. IsLoggable n (settled_part derived i)) (sym at) (record { records = one.records; steps = one.steps }))
