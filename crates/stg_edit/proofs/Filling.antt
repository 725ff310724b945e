-- An arena that gets the places and arcs of a net.
use Rattle.std.proofs.Common.{◌≡◌, ◌<◌, ◌≤◌, ◌+◌, ◌-◌, ℕ, Bool, true, false, ◌&&◌, cond, List, [], ◌∷◌, take, length, get_or, map, Some, None, slice_get, option_map, eqb, leb, ◌⊎◌, refl, sym, ap, ◌∙◌, subst, inl, inr, arith}
use Rattle.std.specs.List.{range_with_len}
use Rattle.std.proofs.lemmas.Bool.{cases_eq, cond_both, false≢true, le-leb}
use Rattle.std.proofs.lemmas.List.{get_or_append_left, get_or-append_right, length-append, length-replicate, length-map, get_or-map, take_all}
use Rattle.std.proofs.lemmas.List.Sums.{sum_by_more}
use Rattle.std.proofs.lemmas.List.FromFn.{length-map-range_with_len, fill_by_all}
use Rattle.std.proofs.lemmas.Option.{slice_get-map, slice_get-get_or}
use Rattle.stg_net.specs.declared.trans.Edge.TheVariants.{Rise}
use Rattle.stg_net.specs.declared.trans.TransName.{TransName}
use Rattle.stg_net.specs.declared.arc.NetArc.{NetArc}
use Rattle.stg_net.specs.Net.{NetLists, IsNet, IsBefore}
use Rattle.stg_net.specs.Initial.{goes, connects, weight_of as net_weight, initial, full_name, place_of as net_place_of}
use Rattle.stg_arena.specs.declared.end.Way.{Way}
use Rattle.stg_arena.specs.declared.end.End.TheVariants.{Place, Trans}
use Rattle.stg_arena.specs.declared.end.Way.TheVariants.{Take, Give}
use Rattle.stg_arena.specs.Ends.{other}
use Rattle.stg_arena.specs.declared.cell.Cell.{Cell}
use Rattle.stg_arena.specs.declared.cell.Spot.{Spot}
use Rattle.stg_arena.specs.ArenaView.{Layout, none, no_spot, spot_at, cell_at, removed_at, head_cell, IsLaid, IsPastAll, IsPushedCell, IsPushedPlace, IsCellAllowed, IsArena}
use Rattle.stg_arena.specs.RingWalk.{cell_weight}
use Rattle.stg_arena.specs.Incidence.{weight}
use Rattle.stg_arena.specs.EmptyArena.{empty_arena, trans_head}
use Rattle.stg_arena.proofs.EmptyArena.{removed_at_empty, weight_empty, arena_empty}
use Rattle.stg_arena.proofs.LayoutAppend.{push_length, push_old, push_new}
use Rattle.stg_arena.proofs.RingWeights.{share, weight_push}
use Rattle.stg_arena.proofs.Lists.{same_map}
use Rattle.stg_edit.specs.inner.DraftAt.{Base, weight_at, table_at, draft_name, now_of}
use Rattle.stg_edit.specs.inner.Table.{table_place}
use Rattle.stg_edit.specs.inner.Filling.{net_arc_at, IsTwoWay, IsFilled, IsFillingPlace, is_into}
use Rattle.stg_arena.specs.declared.end.End.{End}

-- what an arc of a net counts for the weight between p and t
abbrev net_share : Way → ℕ → ℕ → NetArc → ℕ
net_share b p t x = cond (connects (is_into b) t p x) x.weight 0

-- the cell of an arc that stands alone
abbrev pub lone_cell : Bool → ℕ → ℕ → ℕ → Cell
lone_cell into place trans w = record { place = place; trans = trans; take = cond into 0 w; give = cond into w 0 }

single : (b : Way) (into x y : Bool) (w : ℕ) → cond ((x && y) && goes (is_into b) into) w 0 ≡ cond (y && x) (cell_weight b (lone_cell into 0 0 w)) 0
single Take true true true w = refl
single Take true true false w = refl
single Take true false true w = refl
single Take true false false w = refl
single Take false true true w = refl
single Take false true false w = refl
single Take false false true w = refl
single Take false false false w = refl
single Give true true true w = refl
single Give true true false w = refl
single Give true false true w = refl
single Give true false false w = refl
single Give false true true w = refl
single Give false true false w = refl
single Give false false true w = refl
single Give false false false w = refl

-- an arc out of a place and one into it
double : (b : Way) (x y : Bool) (w v : ℕ) → cond ((x && y) && goes (is_into b) false) w 0 + cond ((x && y) && goes (is_into b) true) v 0 ≡ cond (y && x) (cell_weight b (record { place = 0; trans = 0; take = w; give = v })) 0
double Take true true w v = omega arith
double Take true false w v = omega arith
double Take false true w v = omega arith
double Take false false w v = omega arith
double Give true true w v = omega arith
double Give true false w v = omega arith
double Give false true w v = omega arith
double Give false false w v = omega arith

weight_lone : (b : Way) (into : Bool) (p t w : ℕ) → cell_weight b (lone_cell into p t w) ≡ cell_weight b (lone_cell into 0 0 w)
weight_lone Take into p t w = refl
weight_lone Give into p t w = refl

weight_two_way : (b : Way) (p t w v : ℕ) → cell_weight b (record { place = p; trans = t; take = w; give = v }) ≡ cell_weight b (record { place = 0; trans = 0; take = w; give = v })
weight_two_way Take p t w v = refl
weight_two_way Give p t w v = refl

-- what an arc that stands alone adds
pub share_lone : (b : Way) (p t : ℕ) (x : NetArc) → net_share b p t x ≡ share b p t (lone_cell x.into x.place x.trans x.weight)
share_lone b p t x = single b x.into (eqb x.trans t) (eqb x.place p) x.weight ∙ ap (λ w. cond (eqb x.place p && eqb x.trans t) w 0) (sym (weight_lone b x.into x.place x.trans x.weight))

share_two_way : (b : Way) (p t : ℕ) (x y : NetArc) → y.place ≡ x.place → y.trans ≡ x.trans → x.into ≡ false → y.into ≡ true → net_share b p t x + net_share b p t y ≡ share b p t (record { place = x.place; trans = x.trans; take = x.weight; give = y.weight })
share_two_way b p t x y place trans out into =
    (λ i. cond ((eqb x.trans t && eqb x.place p) && goes (is_into b) (out i)) x.weight 0 + cond ((eqb (trans i) t && eqb (place i) p) && goes (is_into b) (into i)) y.weight 0)
    ∙ double b (eqb x.trans t) (eqb x.place p) x.weight y.weight
    ∙ ap (λ w. cond (eqb x.place p && eqb x.trans t) w 0) (sym (weight_two_way b x.place x.trans x.weight y.weight))

-- of two arcs of a net, one after the other, in one place
module _ (n : NetLists) (net : IsNet n) where
  before : (i : ℕ) → i + 1 < length n.arcs → IsBefore (net_arc_at n.arcs i) (net_arc_at n.arcs (i + 1))
  before i h = net.ordered i (i + 1) (record { place = 0; trans = 0; into = false; weight = 0 }) (omega arith) h

  -- after an arc that stands alone comes a later transition
  pub after_lone : (i : ℕ) → i + 1 < length n.arcs → (IsTwoWay n.arcs i → ⊥) → (net_arc_at n.arcs (i + 1)).place ≡ (net_arc_at n.arcs i).place → (net_arc_at n.arcs i).trans < (net_arc_at n.arcs (i + 1)).trans
  after_lone i h alone place = elim (before i h) [
    | inl lower ↦ absurd (omega arith)
    | inr same ↦ elim same.1 [
      | inl lower ↦ lower
      | inr one ↦ absurd (alone (record { there = h; place = place; trans = sym one.0 }))
    ]
  ]

  -- of two arcs of both directions the first goes out of the place
  pub two_ways : (i : ℕ) → IsTwoWay n.arcs i → ((net_arc_at n.arcs i).into ≡ false) × ((net_arc_at n.arcs (i + 1)).into ≡ true)
  two_ways i pair = elim (before i pair.there) [
    | inl lower ↦ absurd (omega (arith, pair.place))
    | inr same ↦ elim same.1 [
      | inl lower ↦ absurd (omega (arith, pair.trans))
      | inr one ↦ one.1
    ]
  ]

  -- after two such arcs comes a later transition
  pub after_two_way : (i : ℕ) → IsTwoWay n.arcs i → i + 2 < length n.arcs → (net_arc_at n.arcs (i + 2)).place ≡ (net_arc_at n.arcs i).place → (net_arc_at n.arcs i).trans < (net_arc_at n.arcs (i + 2)).trans
  after_two_way i pair h place =
      let next : IsBefore (net_arc_at n.arcs (i + 1)) (net_arc_at n.arcs (i + 2)) = net.ordered (i + 1) (i + 2) (record { place = 0; trans = 0; into = false; weight = 0 }) (omega arith) h in
      elim next [
        | inl lower ↦ absurd (omega (arith, pair.place))
        | inr same ↦ elim same.1 [
          | inl lower ↦ omega (arith, pair.trans)
          | inr one ↦ absurd (false≢true (sym one.1.0 ∙ (two_ways i pair).1))
        ]
      ]

  -- later arcs are of no lesser places
  places_up : (i j : ℕ) → i < j → j < length n.arcs → (net_arc_at n.arcs i).place ≤ (net_arc_at n.arcs j).place
  places_up i j low h = elim (net.ordered i j (record { place = 0; trans = 0; into = false; weight = 0 }) low h) [
    | inl lower ↦ omega arith
    | inr same ↦ omega (arith, same.0)
  ]

  -- at the end no arc is left
  pub all_arcs : (at : ℕ) (l : Layout) → IsFilled n (length n.tokens) (length n.tokens) at l → at ≡ length n.arcs
  all_arcs at l f = elim (cases_eq at (length n.arcs)) [
    | inl e ↦ e
    | inr ne ↦ absurd (let h : at < length n.arcs = omega (arith, f.within) in omega (arith, f.later at (omega arith) h, (net.arcs at (record { place = 0; trans = 0; into = false; weight = 0 }) h).place_there))
  ]

-- before the first place
pub starts : (n : NetLists) (l : Layout) → length n.trans + length n.tokens + length n.arcs < none → l ≡ empty_arena (length n.trans) (length n.tokens) (length n.arcs) → IsFilled n 0 0 0 l
starts n l small e = let P : Layout → Type 0 = IsFilled n 0 0 0 in subst P (sym e) (record {
  arena = arena_empty (length n.trans) (length n.tokens) (length n.arcs) small;
  places = refl;
  trans = length-replicate (length n.trans) none;
  tokens = λ p h. absurd (omega arith);
  live = removed_at_empty (length n.trans) (length n.tokens) (length n.arcs) small;
  removals = refl;
  weights = λ b p t. weight_empty (length n.trans) (length n.tokens) (length n.arcs) small b p t;
  within = omega arith;
  later = λ j low h. omega arith;
  removals_room = refl;
  places_room = refl;
  room = omega (arith, length-map-range_with_len trans_head 0 (length n.trans));
})

-- a new place
pub place_starts : (n : NetLists) (p at : ℕ) (l l' : Layout) (s : Spot) → IsLaid l → IsFilled n p p at l → IsPushedPlace s l l' → IsArena l' → s.tokens ≡ get_or n.tokens p 0 → p < length n.tokens → IsFillingPlace n p at l'
place_starts n p at l l' s laid f q arena tokens low = record {
  filled = record {
    arena = arena;
    places = more;
    trans = ap length q.trans ∙ f.trans;
    tokens = λ r h. ap (λ xs. (spot_at xs r).tokens) q.places ∙ elim (cases_eq r p) [
      | inl e ↦ rw e (ap (λ x. x.tokens) (get_or-append_right l.places (s ∷ []) (length l.places) p no_spot refl (omega (arith, f.places)))
          ∙ ap (λ i. (get_or (s ∷ []) i no_spot).tokens) (let z : p - length l.places ≡ 0 = omega (arith, f.places) in z) ∙ tokens)
      | inr ne ↦ ap (λ x. x.tokens) (get_or_append_left l.places (s ∷ []) no_spot r (omega (arith, f.places))) ∙ f.tokens r (omega arith)
    ];
    live = λ b k. q.pushed.same b k ∙ f.live b k;
    removals = q.pushed.removals ∙ f.removals;
    weights = λ b r t. ap (λ xs. weight xs b r t) q.pushed.cells ∙ weight_push l.cells (head_cell l) b r t ∙ none_more b r t ∙ f.weights b r t;
    within = f.within;
    later = f.later;
    removals_room = ap (λ r. r.removals) q.pushed.rooms ∙ f.removals_room;
    places_room = ap (λ r. r.places) q.pushed.rooms ∙ f.places_room;
    room = omega (arith, f.room, ap (λ r. r.cells) q.pushed.rooms, push_length (head_cell l) l l' q.pushed);
  };
  past = λ h here. record { past = λ c d e. none_here c d e };
}
  where
    more : length l'.places ≡ p + 1
    more = ap length q.places ∙ length-append l.places (s ∷ []) ∙ ap (λ m. m + 1) f.places

    none_more : (b : Way) (r t : ℕ) → weight l.cells b r t + share b r t (head_cell l) ≡ weight l.cells b r t
    none_more Take r t = ap (λ m. weight l.cells Take r t + m) (cond_both (eqb (length l.places) r && eqb none t) 0 0 (λ z. z ≡ 0) (λ e. refl) (λ e. refl)) ∙ omega arith
    none_more Give r t = ap (λ m. weight l.cells Give r t + m) (cond_both (eqb (length l.places) r && eqb none t) 0 0 (λ z. z ≡ 0) (λ e. refl) (λ e. refl)) ∙ omega arith

    none_here : (c : ℕ) → c < length l'.cells → (cell_at l'.cells c).place ≡ p → ((cell_at l'.cells c).trans ≡ none) ⊎ ((cell_at l'.cells c).trans < (net_arc_at n.arcs at).trans)
    none_here c d e = elim (cases_eq c (length l.cells)) [
      | inl z ↦ inl (ap (λ c. (cell_at l'.cells c).trans) z ∙ ap (λ x. x.trans) (push_new (head_cell l) l l' q.pushed))
      | inr z ↦
          let old : c < length l.cells = omega (arith, push_length (head_cell l) l l' q.pushed) in
          let o = push_old (head_cell l) l l' c q.pushed old in
          elim (laid.bounded Place c old) [
            | inl y ↦ absurd (omega (arith, ap (λ x. x.place) o, f.places, laid.places, laid.most_places))
            | inr y ↦ absurd (omega (arith, ap (λ x. x.place) o, f.places))
          ]
    ]

-- what is put for the arcs of a net from `at` on, up to `next`
pub record IsPutFor (n : NetLists) (p at next : ℕ) (a : Cell) : Type 0 where
  pub more : at < next
  pub within : next ≤ length n.arcs
  pub shares : (b : Way) (r t : ℕ) → net_weight (take next n.arcs) (is_into b) t r ≡ net_weight (take at n.arcs) (is_into b) t r + share b r t a
  pub later : next < length n.arcs → (net_arc_at n.arcs next).place ≡ p → (net_arc_at n.arcs at).trans < (net_arc_at n.arcs next).trans
  pub trans : a.trans ≡ (net_arc_at n.arcs at).trans

-- what is put for an arc that stands alone
pub put_lone : (n : NetLists) (p at : ℕ) → IsNet n → at < length n.arcs → (net_arc_at n.arcs at).place ≡ p → (IsTwoWay n.arcs at → ⊥) → IsPutFor n p at (at + 1) (let x = net_arc_at n.arcs at in lone_cell x.into x.place x.trans x.weight)
put_lone n p at net h here alone = record {
  more = omega arith;
  within = omega arith;
  shares = λ b r t. sum_by_more (net_share b r t) n.arcs at (record { place = 0; trans = 0; into = false; weight = 0 }) h ∙ ap (λ m. net_weight (take at n.arcs) (is_into b) t r + m) (share_lone b r t (net_arc_at n.arcs at));
  later = λ d e. after_lone n net at d alone (e ∙ sym here);
  trans = refl;
}

-- what is put for two arcs of both directions
pub put_two_way : (n : NetLists) (p at : ℕ) → IsNet n → at < length n.arcs → (net_arc_at n.arcs at).place ≡ p → IsTwoWay n.arcs at → IsPutFor n p at (at + 2) (let x = net_arc_at n.arcs at in record { place = x.place; trans = x.trans; take = x.weight; give = (net_arc_at n.arcs (at + 1)).weight })
put_two_way n p at net h here pair =
    let x = net_arc_at n.arcs at in
    let y = net_arc_at n.arcs (at + 1) in
    let ways = two_ways n net at pair in
    record {
      more = omega arith;
      within = omega (arith, pair.there);
      shares = λ b r t.
          ap (λ m. net_weight (take m n.arcs) (is_into b) t r) (let e : at + 2 ≡ at + 1 + 1 = omega arith in e)
          ∙ sum_by_more (net_share b r t) n.arcs (at + 1) (record { place = 0; trans = 0; into = false; weight = 0 }) pair.there
          ∙ ap (λ m. m + net_share b r t y) (sum_by_more (net_share b r t) n.arcs at (record { place = 0; trans = 0; into = false; weight = 0 }) h)
          ∙ (let e = share_two_way b r t x y pair.place pair.trans ways.0 ways.1 in omega (arith, e));
      later = λ d e. after_two_way n net at pair d (e ∙ sym here);
      trans = refl;
    }

-- the place with one more cell
pub place_goes_on : (n : NetLists) (p at next : ℕ) (l l' : Layout) (a : Cell) → IsFillingPlace n p at l → (net_arc_at n.arcs at).place ≡ p → at < length n.arcs → IsPutFor n p at next a → IsPushedCell a l l' → IsArena l' → IsFillingPlace n p next l'
place_goes_on n p at next l l' a filling here low put q arena =
    let f = filling.filled in
    record {
      filled = record {
        arena = arena;
        places = ap length q.places ∙ f.places;
        trans = ap length q.trans ∙ f.trans;
        tokens = λ r h. ap (λ xs. (spot_at xs r).tokens) q.places ∙ f.tokens r h;
        live = λ b k. q.pushed.same b k ∙ f.live b k;
        removals = q.pushed.removals ∙ f.removals;
        weights = λ b r t. ap (λ xs. weight xs b r t) q.pushed.cells ∙ weight_push l.cells a b r t ∙ ap (λ m. m + share b r t a) (f.weights b r t) ∙ sym (put.shares b r t);
        within = put.within;
        later = λ j lo h. f.later j (omega (arith, put.more)) h;
        removals_room = ap (λ r. r.removals) q.pushed.rooms ∙ f.removals_room;
        places_room = ap (λ r. r.places) q.pushed.rooms ∙ f.places_room;
        room = omega (arith, f.room, ap (λ r. r.cells) q.pushed.rooms, push_length a l l' q.pushed, put.more, put.within);
      };
      past = λ h e. record {
        past = λ c d place. elim (cases_eq c (length l.cells)) [
          | inl z ↦ inr (omega (arith, ap (λ c. (cell_at l'.cells c).trans) z, ap (λ x. x.trans) (push_new a l l' q.pushed), put.trans, put.later h e))
          | inr z ↦
              let old : c < length l.cells = omega (arith, push_length a l l' q.pushed) in
              let o = push_old a l l' c q.pushed old in
              elim ((filling.past low here).past c old (sym (ap (λ x. x.place) o) ∙ place)) [
                | inl y ↦ inl (ap (λ x. x.trans) o ∙ y)
                | inr y ↦ inr (omega (arith, ap (λ x. x.trans) o, put.later h e))
              ]
        ];
      };
    }

-- the last place may get the next arc of the net
pub may_put : (n : NetLists) (xs : List NetArc) (p at : ℕ) (l : Layout) → IsNet n → xs ≡ n.arcs → IsFillingPlace n p at l → at < length n.arcs → (net_arc_at n.arcs at).place ≡ p → IsCellAllowed l (net_arc_at xs at).trans
may_put n xs p at l net arcs filling low here =
    let f = filling.filled in
    let last : p ≡ length l.places - 1 = omega (arith, f.places) in
    let allowed : IsCellAllowed l (net_arc_at n.arcs at).trans = record {
      place = omega (arith, f.places);
      live_place = f.live Place (length l.places - 1);
      trans = omega (arith, f.trans, (net.arcs at (record { place = 0; trans = 0; into = false; weight = 0 }) low).trans_there);
      live_trans = f.live Trans (net_arc_at n.arcs at).trans;
      after = let P : ℕ → Type 0 = λ p. IsPastAll l p (net_arc_at n.arcs at).trans in subst P last (filling.past low here);
      room = omega (arith, f.room, f.within);
    } in
    let P : List NetArc → Type 0 = λ ys. IsCellAllowed l (net_arc_at ys at).trans in
    subst P (sym arcs) allowed

-- the arena of all of the net stands for the initial component
abbrev no_name : TransName
no_name = record { signal = 0; edge = Rise; index = 0 }

-- the arena of all of the net stands for the initial component
pub initial_table : (n : NetLists) (known : List ℕ) (base : Base) (l : Layout) → IsFilled n (length n.tokens) (length n.tokens) (length n.arcs) l → base.names ≡ map (full_name n) n.trans → base.known ≡ (initial n known).known → base.first_places ≡ length n.tokens → now_of base l ≡ initial n known
initial_table n known base l f names signals first =
    let places = ap (λ m. map (table_place (length l.trans) (table_at l (length l.removals))) (range_with_len 0 m)) f.places
    ∙ ap (λ m. map (table_place m (table_at l (length l.removals))) (range_with_len 0 (length n.tokens))) f.trans
    ∙ same_map (table_place (length n.trans) (table_at l (length l.removals))) (net_place_of n) (length n.tokens) place in
    let trans = ap (λ m. map (draft_name l base.names (length l.removals)) (range_with_len 0 m)) f.trans ∙ trans_all in
    λ i. record { places = places i; trans = trans i; known = signals i; first_places = first i }
  where
    on : (b : End) (k : ℕ) → leb (length l.removals) (removed_at l b k) ≡ true
    on b k = le-leb (length l.removals) (removed_at l b k) (omega (arith, ap length f.removals, f.live b k))

    weights : (b : Way) (p t : ℕ) → weight_at l (length l.removals) b t p ≡ net_weight n.arcs (is_into b) t p
    weights b p t = ap (λ z. cond z (weight l.cells b p t) 0) (on Trans t) ∙ f.weights b p t ∙ ap (λ xs. net_weight xs (is_into b) t p) (take_all (length n.arcs) n.arcs (omega arith))

    place : (p : ℕ) → p < length n.tokens → table_place (length n.trans) (table_at l (length l.removals)) p ≡ net_place_of n p
    place p h =
        let tokens = f.tokens p h in
        let taken = same_map (λ t. weight_at l (length l.removals) Take t p) (λ t. net_weight n.arcs false t p) (length n.trans) (λ t d. weights Take p t) in
        let given = same_map (λ t. weight_at l (length l.removals) Give t p) (λ t. net_weight n.arcs true t p) (length n.trans) (λ t d. weights Give p t) in
        rw (on Place p) (λ i. Some (record { tokens = tokens i; taken = taken i; given = given i }))

    named : (k : ℕ) → k < length n.trans → slice_get (map (full_name n) n.trans) k ≡ Some (full_name n (get_or n.trans k no_name))
    named k h = slice_get-map (full_name n) n.trans k ∙ ap (option_map (full_name n)) (slice_get-get_or n.trans k no_name h)

    trans_all : map (draft_name l base.names (length l.removals)) (range_with_len 0 (length n.trans)) ≡ map (λ t. Some (full_name n t)) n.trans
    trans_all = sym (fill_by_all (draft_name l base.names (length l.removals)) (map (λ t. Some (full_name n t)) n.trans) (length n.trans) None (length-map n.trans (λ t. Some (full_name n t)))
        (λ k h. get_or-map (λ t. Some (full_name n t)) n.trans k no_name None h ∙ sym (ap (λ z. cond z (slice_get base.names k) None) (on Trans k) ∙ ap (λ xs. slice_get xs k) names ∙ named k h)))

-- the place after an arc that stands alone
pub place_lone : (n : NetLists) (xs : List NetArc) (p at : ℕ) (l l' : Layout) (a : Cell) → IsNet n → xs ≡ n.arcs → IsFillingPlace n p at l → (net_arc_at n.arcs at).place ≡ p → at < length n.arcs → (IsTwoWay xs at → ⊥) → IsPushedCell a l l' → IsArena l' → a ≡ (let x = net_arc_at xs at in lone_cell x.into p x.trans x.weight) → IsFillingPlace n p (at + 1) l'
place_lone n xs p at l l' a net same filling here low alone q arena is =
    let x = net_arc_at n.arcs at in
    let e : a ≡ lone_cell x.into x.place x.trans x.weight = is ∙ ap (λ p. let x = net_arc_at xs at in lone_cell x.into p x.trans x.weight) (sym here) ∙ ap (λ xs. let y = net_arc_at xs at in lone_cell y.into x.place y.trans y.weight) same in
    let P : Cell → Type 0 = λ a. IsPushedCell a l l' in
    let Q : List NetArc → Type 0 = λ xs. IsTwoWay xs at → ⊥ in
    place_goes_on n p at (at + 1) l l' (lone_cell x.into x.place x.trans x.weight) filling here low (put_lone n p at net low here (subst Q same alone)) (subst P e q) arena

-- the place after two arcs of both directions
pub place_two_way : (n : NetLists) (xs : List NetArc) (p at : ℕ) (l l' : Layout) (a : Cell) → IsNet n → xs ≡ n.arcs → IsFillingPlace n p at l → (net_arc_at n.arcs at).place ≡ p → at < length n.arcs → IsTwoWay xs at → IsPushedCell a l l' → IsArena l' → a ≡ record { place = p; trans = (net_arc_at xs at).trans; take = (net_arc_at xs at).weight; give = (net_arc_at xs (at + 1)).weight } → IsFillingPlace n p (at + 2) l'
place_two_way n xs p at l l' a net same filling here low pair q arena is =
    let x = net_arc_at n.arcs at in
    let b : Cell = record { place = x.place; trans = x.trans; take = x.weight; give = (net_arc_at n.arcs (at + 1)).weight } in
    let e : a ≡ b = is ∙ (λ i. record { place = sym here i; trans = (net_arc_at (same i) at).trans; take = (net_arc_at (same i) at).weight; give = (net_arc_at (same i) (at + 1)).weight }) in
    let P : Cell → Type 0 = λ a. IsPushedCell a l l' in
    let Q : List NetArc → Type 0 = λ xs. IsTwoWay xs at in
    place_goes_on n p at (at + 2) l l' b filling here low (put_two_way n p at net low here (subst Q same pair)) (subst P e q) arena
