-- What reading a component's text back rests on; its words as nodes.
use Rattle.std.proofs.Common.{◌≡◌, ◌≢◌, ◌+◌, ◌<◌, ◌≤◌, ◌==◌, ℕ, List, [], ◌∷◌, ◌++◌, true, false, not, length, filter, get_or, refl, sym, ap, subst, ◌∙◌, arith, inl, inr, AllPairs, Some}
use Rattle.std.proofs.lemmas.Bool.{and_parts, not-true, or_parts, or_from, cases_order, true≢false, false_from_ne_true, eqb-true}
use Rattle.std.proofs.lemmas.Bool.Decides.{Decides-eqb}
use Rattle.std.proofs.lemmas.List.Elements.{All-get_or, filter_passes}
use Rattle.std.proofs.lemmas.Slice.Eq.{bytes_eq-Decides, starts_is}
use Rattle.std.specs.List.{list_any}
use Rattle.std.specs.Option.{option_map_or}
use Rattle.std.specs.Str.{bytes_eq}
use Rattle.std.specs.Prelude.{decimal}
use Rattle.stg_net.specs.declared.limits.TheConstants.Limits.{PART}
use Rattle.stg_net.specs.declared.signal.Kind.TheVariants.{Input, Output, Internal}
use Rattle.stg_net.specs.declared.signal.Signal.{Signal}
use Rattle.stg_net.specs.declared.trans.Edge.TheVariants.{Rise}
use Rattle.stg_net.specs.declared.trans.TransName.{TransName}
use Rattle.stg_net.specs.declared.arc.NetArc.{NetArc}
use Rattle.stg_net.specs.Net.{NetLists, IsNet, IsWithin, IsBefore, number_of}
use Rattle.stg_net.specs.Names.{is_name}
use Rattle.stg_net.specs.Words.{word_of, trans_word, name_at}
use Rattle.stg_net.specs.Ordered.{first_giver}
use Rattle.astg_read.specs.inner.NoDummies.{without_dummies}
use Rattle.astg_read.specs.Nodes.{Trans, Place, same_trans}
use Rattle.astg_read.proofs.ArcLemmas.{trans-eq}
use Rattle.astg_write.specs.PlaceNames.{begins_with, numbered_name}
use Rattle.astg_write.specs.ComponentText.{of_kind, comes_from, goes_out_of}
use Rattle.astg_write.proofs.WrittenRows.{IsFormed, get-slice}
use Rattle.astg_write.proofs.NodeForms.{IsWordOf, word-trans, word-place, number-of_name}
use Rattle.astg_write.proofs.WrittenArcs.{arcs_given, arcs_taken, AllPairs-filter, AllPairs-with}

-- the net has its order, and the places have names of their own
pub record IsReadable (prefix : List ℕ) (n : NetLists) : Type 0 where
  pub formed : IsFormed prefix n
  pub is_net : IsNet n
  pub within : IsWithin PART n
  pub free : list_any (begins_with prefix) n.signals ≡ false
  pub places_apart : (p q : ℕ) → p < length n.tokens → q < length n.tokens → p ≢ q → bytes_eq (numbered_name prefix p) (numbered_name prefix q) ≡ false
  pub by_kind : n.signals ≡ filter (of_kind Input) n.signals ++ filter (of_kind Output) n.signals ++ filter (of_kind Internal) n.signals
  pub rising : (p q : ℕ) → p ≤ q → q < length n.tokens → first_giver n p ≤ first_giver n q

-- the transition of that number
abbrev pub trans_at : NetLists → ℕ → TransName
trans_at n t = get_or n.trans t (record { signal = 0; edge = Rise; index = 0 })

module _ (prefix : List ℕ) (n : NetLists) (r : IsReadable prefix n) where
  unused : (w : List ℕ) (rest : List ℕ) → w ≡ prefix ++ rest → (ss : List Signal) → list_any (begins_with prefix) ss ≡ false → list_any (λ (s : Signal). bytes_eq w s.name) ss ≡ false
  unused w rest e [] h = refl
  unused w rest e (s ∷ ss) h =
      let p = or_parts (begins_with prefix s) (list_any (begins_with prefix) ss) h in
      or_from (bytes_eq w s.name) (list_any (λ (x : Signal). bytes_eq w x.name) ss)
      (false_from_ne_true (bytes_eq w s.name) (λ b.
      let same : s.name ≡ prefix ++ rest = sym ((bytes_eq-Decides w s.name).0 b) ∙ e in
      true≢false (sym ((starts_is Decides-eqb s.name prefix (begins_with prefix s) refl).1 rest same) ∙ p.0)))
      (unused w rest e ss p.1)

  -- a place's name stands for the place
  pub place-word : (p : ℕ) → p < length n.tokens → IsWordOf (without_dummies n.signals) (numbered_name prefix p) (Place (numbered_name prefix p))
  place-word p b = word-place n.signals r.formed.names (numbered_name prefix p) (r.formed.places p b) (unused (numbered_name prefix p) (decimal (p + 1)) refl n.signals r.free)

  -- a transition's word stands for the transition
  pub trans-word : (t : ℕ) → t < length n.trans → IsWordOf (without_dummies n.signals) (trans_word n.signals n.trans t) (Trans (trans_at n t))
  trans-word t b =
      let d : TransName = record { signal = 0; edge = Rise; index = 0 } in
      let e : Signal = record { name = []; kind = Input } in
      let u = trans_at n t in
      let there : u.signal < length n.signals = All-get_or (λ (x : TransName). x.signal < length n.signals) n.trans t d b r.formed.trans_signals in
      let named : name_at n.signals u.signal ≡ (get_or n.signals u.signal e).name = ap (λ o. option_map_or (λ (x : Signal). x.name) o []) (get-slice n.signals u.signal e there) in
      let formed : is_name (name_at n.signals u.signal) ≡ true = ap is_name named ∙ All-get_or (λ (x : Signal). is_name x.name ≡ true) n.signals u.signal e there r.formed.names in
      let at : number_of (name_at n.signals u.signal) n.signals ≡ Some u.signal = ap (λ w. number_of w n.signals) named ∙ number-of_name n.signals u.signal e r.is_net.signal_names there in
      let word : trans_word n.signals n.trans t ≡ word_of n.signals u = ap (λ o. option_map_or (word_of n.signals) o []) (get-slice n.trans t d b) in
      subst (λ w. IsWordOf (without_dummies n.signals) w (Trans u)) (sym word)
      (word-trans n.signals r.formed.names (name_at n.signals u.signal) u.edge u.index u.signal formed (All-get_or (λ (x : TransName). x.index < 1000000000) n.trans t d b r.formed.indices) at)

  -- transitions of two numbers differ
  pub trans-apart : (t u : ℕ) → t < length n.trans → u < length n.trans → t ≢ u → same_trans (trans_at n t) (trans_at n u) ≡ false
  trans-apart t u a b differ = false_from_ne_true (same_trans (trans_at n t) (trans_at n u)) (λ s.
      let d : TransName = record { signal = 0; edge = Rise; index = 0 } in
      let e = trans-eq (trans_at n t) (trans_at n u) s in
      elim (cases_order t u) [
        | inl k ↦ differ k
        | inr k ↦ elim k [
          | inl l ↦ r.is_net.trans_names t u d l b e
          | inr l ↦ r.is_net.trans_names u t d l a (sym e)
        ]
      ])

  comes : (t : ℕ) (a : NetArc) → comes_from t a ≡ true → (a.into ≡ true) × (a.trans ≡ t)
  comes t a h = let p = and_parts a.into (a.trans == t) h in (p.0, eqb-true a.trans t p.1)

  goes : (p : ℕ) (a : NetArc) → goes_out_of p a ≡ true → (a.into ≡ false) × (a.place ≡ p)
  goes p a h = let q = and_parts (not a.into) (a.place == p) h in (not-true a.into q.0, eqb-true a.place p q.1)

  -- the arcs of a transition into places ascend
  pub given-rise : (t : ℕ) → AllPairs (λ (a b : NetArc). a.place < b.place) (arcs_given n.arcs t)
  given-rise t = AllPairs-with (λ (a : NetArc). comes_from t a ≡ true) IsBefore (λ (a b : NetArc). a.place < b.place) step (arcs_given n.arcs t)
      (filter_passes (comes_from t) n.arcs) (AllPairs-filter IsBefore (comes_from t) n.arcs r.is_net.ordered)
    where
      step : (a b : NetArc) → comes_from t a ≡ true → comes_from t b ≡ true → IsBefore a b → a.place < b.place
      step a b h k before =
          let x = comes t a h in let y = comes t b k in
          elim before [
            | inl l ↦ l
            | inr m ↦ elim m.1 [
              | inl l ↦ absurd (omega (arith, l, x.1, y.1))
              | inr e ↦ absurd (true≢false (sym x.0 ∙ e.1.0))
            ]
          ]

  -- the arcs out of a place ascend
  pub taken-rise : (p : ℕ) → AllPairs (λ (a b : NetArc). a.trans < b.trans) (arcs_taken n.arcs p)
  taken-rise p = AllPairs-with (λ (a : NetArc). goes_out_of p a ≡ true) IsBefore (λ (a b : NetArc). a.trans < b.trans) step (arcs_taken n.arcs p)
      (filter_passes (goes_out_of p) n.arcs) (AllPairs-filter IsBefore (goes_out_of p) n.arcs r.is_net.ordered)
    where
      step : (a b : NetArc) → goes_out_of p a ≡ true → goes_out_of p b ≡ true → IsBefore a b → a.trans < b.trans
      step a b h k before =
          let x = goes p a h in let y = goes p b k in
          elim before [
            | inl l ↦ absurd (omega (arith, l, x.1, y.1))
            | inr m ↦ elim m.1 [
              | inl l ↦ l
              | inr e ↦ absurd (true≢false (sym e.1.1 ∙ y.0))
            ]
          ]
