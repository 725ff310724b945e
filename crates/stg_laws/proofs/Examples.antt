-- The definitions of meaning computed on the net of a C-element, and on one with two equal labels.
use Rattle.std.proofs.Common.{◌≡◌, ℕ, ◌+◌, ◌-◌, ◌*◌, zero, suc, List, [], ◌∷◌, Some, refl, sym, ◌∙◌, ap, codes, slice_index}
use Rattle.std.proofs.lemmas.Bool.{false≢true}
use Rattle.stg_net.specs.declared.signal.Kind.TheVariants.{Input}
use Rattle.stg_net.specs.declared.trans.Edge.{Edge}
use Rattle.stg_net.specs.declared.trans.Edge.TheVariants.{Rise, Fall, Toggle}
use Rattle.stg_net.specs.Graph.{Graph, FullName, full_name_at}
use Rattle.stg_net.specs.Initial.{graph_of}
use Rattle.stg_net.specs.Net.{NetLists}
use Rattle.stg_net.proofs.Examples.{named, celem}
use Rattle.stg_laws.specs.Cuts.{Label, label_of, cut, trace}
use Rattle.stg_laws.specs.Deterministic.{IsClean, HasNoDummy, IsDeterministic}
use Rattle.stg_laws.specs.Stgs.{stg_of}

abbrev full : List ℕ → Edge → ℕ → FullName
full signal edge index = record { signal = signal; edge = edge; index = index }

-- b+ isn't seen on a and c
celem-cut : cut (graph_of celem) (codes "a" ∷ codes "c" ∷ []) (0 ∷ 2 ∷ 1 ∷ 3 ∷ []) ≡ full (codes "a") Rise 0 ∷ full (codes "c") Rise 0 ∷ full (codes "a") Fall 0 ∷ []
celem-cut = refl

celem-driven : (stg_of celem).driven ≡ codes "c" ∷ []
celem-driven = refl

celem-known : (stg_of celem).graph.known ≡ codes "a" ∷ codes "b" ∷ codes "c" ∷ []
celem-known = refl

-- a trace tells no indices
abbrev twice : NetLists
twice = record {
  signals = record { name = codes "a"; kind = Input } ∷ [];
  trans = named 0 Rise ∷ record { signal = 0; edge = Rise; index = 1 } ∷ [];
  tokens = [];
  arcs = [];
}

twice-trace : trace (graph_of twice) (codes "a" ∷ []) (1 ∷ 0 ∷ []) ≡ record { signal = codes "a"; edge = Rise } ∷ record { signal = codes "a"; edge = Rise } ∷ []
twice-trace = refl

twice-cut : cut (graph_of twice) (codes "a" ∷ []) (1 ∷ 0 ∷ []) ≡ full (codes "a") Rise 1 ∷ full (codes "a") Rise 0 ∷ []
twice-cut = refl

-- a graph in which no label stands twice is clean
clean_by_labels : (g : Graph) (number : Label → ℕ) → ((t : ℕ) (x : FullName) → full_name_at g t ≡ Some x → number (label_of x) ≡ t) → IsClean g
clean_by_labels g number back run t u runs r et eu = r.differ (sym (back t r.t_name r.t_has) ∙ ap number r.same ∙ back u r.u_name r.u_has)

abbrev edge_number : Edge → ℕ
edge_number Rise = 0
edge_number Fall = 1
edge_number Toggle = 2

abbrev celem_number : Label → ℕ
celem_number l = slice_index (0 ∷ 3 ∷ 2 ∷ 4 ∷ 1 ∷ 5 ∷ []) (2 * (slice_index l.signal 0 - 97) + edge_number l.edge)

celem_back : (t : ℕ) (x : FullName) → full_name_at (graph_of celem) t ≡ Some x → celem_number (label_of x) ≡ t
celem_back zero x e = let same : full (codes "a") Rise 0 ≡ x = cc in ap (λ (y : FullName). celem_number (label_of y)) (sym same)
celem_back (suc zero) x e = let same : full (codes "c") Rise 0 ≡ x = cc in ap (λ (y : FullName). celem_number (label_of y)) (sym same)
celem_back (suc (suc zero)) x e = let same : full (codes "b") Rise 0 ≡ x = cc in ap (λ (y : FullName). celem_number (label_of y)) (sym same)
celem_back (suc (suc (suc zero))) x e = let same : full (codes "a") Fall 0 ≡ x = cc in ap (λ (y : FullName). celem_number (label_of y)) (sym same)
celem_back (suc (suc (suc (suc zero)))) x e = let same : full (codes "b") Fall 0 ≡ x = cc in ap (λ (y : FullName). celem_number (label_of y)) (sym same)
celem_back (suc (suc (suc (suc (suc zero))))) x e = let same : full (codes "c") Fall 0 ≡ x = cc in ap (λ (y : FullName). celem_number (label_of y)) (sym same)
celem_back (suc (suc (suc (suc (suc (suc t)))))) x e = cc

celem_no_dummy : HasNoDummy (graph_of celem)
celem_no_dummy zero d = false≢true (sym d.hidden)
celem_no_dummy (suc zero) d = false≢true (sym d.hidden)
celem_no_dummy (suc (suc zero)) d = false≢true (sym d.hidden)
celem_no_dummy (suc (suc (suc zero))) d = false≢true (sym d.hidden)
celem_no_dummy (suc (suc (suc (suc zero)))) d = false≢true (sym d.hidden)
celem_no_dummy (suc (suc (suc (suc (suc zero))))) d = false≢true (sym d.hidden)
celem_no_dummy (suc (suc (suc (suc (suc (suc t)))))) d = false≢true d.live

-- the C-element is deterministic
pub celem_is_deterministic : IsDeterministic (graph_of celem)
celem_is_deterministic = record { clean = clean_by_labels (graph_of celem) celem_number celem_back; no_dummy = celem_no_dummy }
