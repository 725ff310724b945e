-- The token game of a C-element: its transitions are a+ c+ b+ a- b- c-.
use Rattle.std.proofs.Common.{◌≡◌, ◌≤◌, ℕ, Bool, nat_le, arith, [], ◌∷◌, true, false, List, map, refl, zero-add, sym, ap, ◌∙◌, inl, inr}
use Rattle.std.specs.List.{list_all, range_with_len}
use Rattle.std.proofs.lemmas.Bool.{cases_lt, leb-true}
use Rattle.std.proofs.lemmas.List.FromFn.{get_or-range_with_len}
use Rattle.std.proofs.lemmas.List.Sums.{AllPass-from_list_all}
use Rattle.stg_net.specs.Graph.{IsTrans, taken_by, takes, tokens_at}
use Rattle.stg_net.specs.Run.{IsEnabled, fired}
use Rattle.stg_net.specs.Initial.{graph_of}
use Rattle.stg_net.proofs.Examples.{celem}
use Rattle.stg_net.proofs.Weights.{place_at-past}
use Rattle.stg_token.specs.inner.Pass.{is_held}

abbrev places : List ℕ
places = range_with_len 0 8

-- a transition is enabled where the test at each place says so
enabled_by : (t : ℕ) (m : ℕ → ℕ) → IsTrans (graph_of celem) t → list_all (λ p. nat_le (takes (graph_of celem) t p) (m p)) places ≡ true → IsEnabled (graph_of celem) m t
enabled_by t m live e = record {
  live = live;
  covered = λ p. elim (cases_lt p 8) [
    | inl below ↦
        let test : ℕ → Bool = λ q. nat_le (takes (graph_of celem) t q) (m q) in
        leb-true _ _ (ap test (sym (get_or-range_with_len 0 8 p 0 below ∙ zero-add p)) ∙ AllPass-from_list_all test places e p 0 below)
    | inr past ↦ omega (arith, ap (taken_by t) (place_at-past celem (0 ∷ 1 ∷ 2 ∷ []) p past))
  ];
}

abbrev first : ℕ → ℕ
first = tokens_at (graph_of celem)

-- at first a+ and b+ are enabled, and c+ isn't
a_enabled : IsEnabled (graph_of celem) first 0
a_enabled = enabled_by 0 first refl refl

b_enabled : IsEnabled (graph_of celem) first 2
b_enabled = enabled_by 2 first refl refl

c_not_enabled : IsEnabled (graph_of celem) first 1 → ⊥
c_not_enabled e = let few : 1 ≤ 0 = e.covered 0 in absurd (omega arith)

abbrev after_both : ℕ → ℕ
after_both = fired (graph_of celem) (fired (graph_of celem) first 0) 2

both_fired : map after_both places ≡ 1 ∷ 1 ∷ 0 ∷ 0 ∷ 0 ∷ 0 ∷ 0 ∷ 0 ∷ []
both_fired = refl

-- after both it is
c_enabled : IsEnabled (graph_of celem) after_both 1
c_enabled = enabled_by 1 after_both refl refl

-- what the pass over the arcs computes
held_first : map (λ t. list_all (is_held celem.tokens t) celem.arcs) (0 ∷ 1 ∷ 2 ∷ 3 ∷ 4 ∷ 5 ∷ []) ≡ true ∷ false ∷ true ∷ false ∷ false ∷ false ∷ []
held_first = refl

held_after : map (λ t. list_all (is_held (1 ∷ 1 ∷ 0 ∷ 0 ∷ 0 ∷ 0 ∷ 0 ∷ 0 ∷ []) t) celem.arcs) (0 ∷ 1 ∷ 2 ∷ 3 ∷ 4 ∷ 5 ∷ []) ≡ false ∷ true ∷ false ∷ false ∷ false ∷ false ∷ []
held_after = refl
