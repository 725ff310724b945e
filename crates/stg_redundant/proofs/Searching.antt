-- How rooms rise along links, and what they say when no link is left.
use Rattle.std.proofs.Common.{◌≡◌, ◌≢◌, ◌<◌, ◌≤◌, ◌+◌, ◌-◌, ◌⊎◌, ◌++◌, ℕ, zero, suc, List, [], ◌∷◌, length, get_or, set, Contains, All, Some, refl, sym, ap, ◌∙◌, subst, inl, inr, arith}
use Rattle.std.specs.List.Sorted.{IsPermutation}
use Rattle.std.proofs.lemmas.Bool.{cases_eq, cases_lt}
use Rattle.std.proofs.lemmas.List.{get_or-set_other, get_or-set_same, get_or_past, length-set}
use Rattle.std.proofs.lemmas.List.Elements.{All-nil, All-cons, All-head, All-tail, Contains-append_right}
use Rattle.std.proofs.lemmas.List.Sorted.{All-permutation, Contains-permutation, length_permutation}
use Rattle.std.proofs.lemmas.List.Sums.{sum_by-cons, sum_by-set, sum_by_push}
use Rattle.stg_net.specs.Graph.{Graph, IsTrans}
use Rattle.stg_edit.specs.Drafts.{IsWeightlessPastLast, IsWeightlessWhereRemoved}
use Rattle.stg_redundant.specs.declared.chains.Link.{Link}
use Rattle.stg_redundant.specs.inner.Chains.{link_at, IsPath, tokens_on, HasPath, AreReached, IsListed, AreEntriesLive, IsRelaxed, AreRelaxed, IsAmong, IsRaised, IsVisited, effort, ArePassed, IsSearch}
use Rattle.stg_redundant.proofs.LinkPaths.{link_is, taker_live, link_place, one_link}

-- a path that goes on along one more link
path_last : (g : Graph) (p a : ℕ) (l : Link) (path : List Link)
    → IsPath g p a l.giver path → link_at g l.place ≡ Some l → l.place ≢ p
    → IsPath g p a l.taker (path ++ l ∷ [])
path_last g p a l [] e at other = (at, other, sym e, refl)
path_last g p a l (x ∷ path) leads at other = (leads.0, leads.1, leads.2, path_last g p x.taker l path leads.3 at other)

-- it leaves less room by the tokens of the link
longer : (g : Graph) (p a : ℕ) (l : Link) (all room : ℕ) → HasPath g p a l.giver all (room + l.tokens)
    → link_at g l.place ≡ Some l → l.place ≢ p → HasPath g p a l.taker all room
longer g p a l all room h at other = record {
  path = h.path ++ l ∷ [];
  leads = path_last g p a l h.path h.leads at other;
  few = omega (arith, h.few, sum_by_push (λ (x : Link). x.tokens) h.path l);
}

-- where each link is relaxed, room for a path to b leaves room at b
room_goes_on : (g : Graph) (p b : ℕ) (rooms : List ℕ) → AreRelaxed g p b rooms (λ l. ⊥)
    → (path : List Link) (a : ℕ) → IsPath g p a b path → tokens_on path + 1 ≤ get_or rooms a 0
    → 0 < get_or rooms b 0
room_goes_on g p b rooms all [] a e room = omega (arith, room, ap (λ j. get_or rooms j 0) e)
room_goes_on g p b rooms all (l ∷ path) a leads room = elim (all l leads.0 leads.1) [
  | inl never ↦ absurd never
  | inr relaxed ↦
      let here : tokens_on path + (l.tokens + 1) ≤ get_or rooms l.giver 0 = omega (arith, room, sum_by-cons (λ (x : Link). x.tokens) l path, ap (λ j. get_or rooms j 0) leads.2) in
      let kept = relaxed (record { path = path; leads = leads.3; few = here }) in
      room_goes_on g p b rooms all path l.taker leads.3 (omega (arith, kept, here))
]

-- a search without entries has relaxed each link
pub no_entries : (g : Graph) (p a b all : ℕ) (rooms : List ℕ) → IsSearch g p a b all rooms []
    → AreRelaxed g p b rooms (λ l. ⊥)
no_entries g p a b all rooms s l at other = elim (s.relaxed l at other) [
  | inl listed ↦ absurd (omega (arith, listed.1))
  | inr relaxed ↦ inr relaxed
]

-- where it ends without room at b, no path holds at most so much
pub none_found : (g : Graph) (p a b most : ℕ) (rooms : List ℕ) → IsSearch g p a b (most + 1) rooms []
    → get_or rooms b 0 ≡ 0 → HasPath g p a b most 0 → ⊥
none_found g p a b most rooms s none h =
    absurd (omega (arith, none, room_goes_on g p b rooms (no_entries g p a b (most + 1) rooms s) h.path a h.leads (omega (arith, h.few, s.first))))

-- where there is room at b, a path does
pub found : (g : Graph) (p a b most : ℕ) (rooms : List ℕ) (entries : List (ℕ × ℕ))
    → IsSearch g p a b (most + 1) rooms entries → 0 < get_or rooms b 0 → HasPath g p a b most 0
found g p a b most rooms entries s some =
    let h = s.reached b some in record { path = h.path; leads = h.leads; few = omega (arith, h.few, some) }

-- at first all links at which t gives are left
pub following : (g : Graph) (p b t : ℕ) (left : List (ℕ × ℕ)) (rooms : List ℕ) (entries : List (ℕ × ℕ))
    → ((l : Link) → link_at g l.place ≡ Some l → l.giver ≡ t → IsAmong l.place left)
    → ArePassed g p b t left rooms rooms entries entries
following g p b t left rooms entries among = record {
  long = refl;
  small = λ all few. few;
  grown = λ u. omega arith;
  live = λ each. each;
  reached = λ a all r. r;
  spent = λ all few. omega arith;
  relaxed = λ before l at other. elim (before l at other) [
    | inl (inl listed) ↦ inl (inl listed)
    | inl (inr e) ↦ inl (inr (e, among l at e))
    | inr relaxed ↦ inr relaxed
  ];
}

-- a small number in place of another leaves all small
set_small : (all : ℕ) (xs : List ℕ) (t v : ℕ) → v ≤ all → All (λ room. room ≤ all) xs
    → All (λ room. room ≤ all) (set xs t v)
set_small all xs t v few small k d low = elim (cases_eq k t) [
  | inl e ↦ subst (λ j. get_or (set xs t v) j d ≤ all) (sym e) (omega (arith, few, get_or-set_same xs t v d (omega (arith, low, e, length-set xs t v))))
  | inr n ↦ omega (arith, get_or-set_other xs t k v d n, small k d (omega (arith, low, length-set xs t v)))
]

-- a place whose link is relaxed is visited
followed-kept : (g : Graph) (p b t : ℕ) (x : ℕ × ℕ) (left : List (ℕ × ℕ)) (old now : List ℕ) (before mid : List (ℕ × ℕ))
    → ((l : Link) → link_at g x.0 ≡ Some l → x.0 ≢ p → IsRelaxed g p b now l)
    → ArePassed g p b t (x ∷ left) old now before mid → ArePassed g p b t left old now before mid
followed-kept g p b t x left old now before mid here w = record {
  long = w.long;
  small = w.small;
  grown = w.grown;
  live = w.live;
  reached = w.reached;
  spent = w.spent;
  relaxed = λ s l at other. elim (w.relaxed s l at other) [
    | inl (inl listed) ↦ inl (inl listed)
    | inl (inr (e, inl same)) ↦ inr (here l (ap (link_at g) same ∙ at) (λ f. other (sym same ∙ f)))
    | inl (inr (e, inr later)) ↦ inl (inr (e, later))
    | inr relaxed ↦ inr relaxed
  ];
}

-- the ends of a link that is raised
record AreEnds (g : Graph) (now : List ℕ) (l : Link) : Type 0 where
  giver : l.giver < length now
  taker : l.taker < length now
  live : IsTrans g l.taker

-- a link that is raised reaches its end
raised_reached : (g : Graph) (p a all : ℕ) (now : List ℕ) (l : Link) → AreEnds g now l
    → link_at g l.place ≡ Some l → l.place ≢ p
    → get_or now l.taker 0 + l.tokens < get_or now l.giver 0
    → AreReached g p a all now
    → AreReached g p a all (set now l.taker (get_or now l.giver 0 - l.tokens))
raised_reached g p a all now l ends at other more r t some =
    let v = get_or now l.giver 0 - l.tokens in
    elim (cases_eq t l.taker) [
      | inl e ↦
          let is : get_or (set now l.taker v) t 0 ≡ v = ap (λ j. get_or (set now l.taker v) j 0) e ∙ get_or-set_same now l.taker v 0 ends.taker in
          let whole : get_or now l.giver 0 ≡ v + l.tokens = omega (arith, more) in
          let before = subst (HasPath g p a l.giver all) whole (r l.giver (omega (arith, more))) in
          let path = longer g p a l all v before at other in
          subst (λ j. HasPath g p a j all (get_or (set now l.taker v) t 0)) (sym e) (subst (HasPath g p a l.taker all) (sym is) path)
      | inr n ↦
          let same : get_or (set now l.taker v) t 0 ≡ get_or now t 0 = get_or-set_other now l.taker t v 0 n in
          subst (HasPath g p a t all) (sym same) (r t (omega (arith, some, same)))
    ]

-- the effort falls by at least the entry that is added
raised_spent : (all : ℕ) (now : List ℕ) (u v : ℕ) (mid after : List (ℕ × ℕ)) → u < length now
    → get_or now u 0 < v → v ≤ all → IsPermutation ((v, u) ∷ mid) after
    → effort all (set now u v) after ≤ effort all now mid
raised_spent all now u v mid after low more few listed = omega (
  arith,
  sum_by-set (λ room. all - room) now u v 0 low,
  length_permutation ((v, u) ∷ mid) after listed,
  more,
  few,
)

-- relaxed links stay so, and those that leave the end of the link are listed
raised_relaxed : (g : Graph) (p b t : ℕ) (x : ℕ × ℕ) (left : List (ℕ × ℕ)) (now : List ℕ) (mid after : List (ℕ × ℕ)) (k : Link)
    → AreEnds g now k → link_at g x.0 ≡ Some k
    → get_or now k.taker 0 + k.tokens < get_or now k.giver 0
    → IsPermutation ((get_or now k.giver 0 - k.tokens, k.taker) ∷ mid) after
    → AreRelaxed g p b now (λ l. IsListed mid now l.giver ⊎ ((l.giver ≡ t) × IsAmong l.place (x ∷ left)))
    → AreRelaxed g p b (set now k.taker (get_or now k.giver 0 - k.tokens)) (λ l. IsListed after (set now k.taker (get_or now k.giver 0 - k.tokens)) l.giver ⊎ ((l.giver ≡ t) × IsAmong l.place left))
raised_relaxed g p b t x left now mid after k ends at more listed s l at_l other =
    let u = k.taker in
    let v = get_or now k.giver 0 - k.tokens in
    let new = set now u v in
    let is : get_or new u 0 ≡ v = get_or-set_same now u v 0 ends.taker in
    elim (cases_eq l.giver u) [
      | inl e ↦ inl (inl (subst (λ j. Contains after (get_or new j 0, j)) (sym e) (subst (λ r. Contains after (r, u)) (sym is) (Contains-permutation ((v, u) ∷ mid) after (v, u) listed (0, omega arith, refl)))))
      | inr n ↦
          let same : get_or new l.giver 0 ≡ get_or now l.giver 0 = get_or-set_other now u l.giver v 0 n in
          elim (s l at_l other) [
            | inl (inl there) ↦ inl (inl (subst (λ r. Contains after (r, l.giver)) (sym same) (Contains-permutation ((v, u) ∷ mid) after (get_or now l.giver 0, l.giver) listed (later (get_or now l.giver 0, l.giver) there))))
            | inl (inr (e, inl here)) ↦
                let l_is : k ≡ l = one_link g x.0 k l at (ap (link_at g) here ∙ at_l) in
                inr (λ h. omega (arith, same, is, ap (λ (y : Link). y.giver) l_is, ap (λ (y : Link). get_or new y.taker 0) l_is, ap (λ (y : Link). get_or now y.giver 0) l_is, ap (λ (y : Link). y.tokens) l_is))
            | inl (inr (e, inr rest)) ↦ inl (inr (e, rest))
            | inr relaxed ↦ inr (λ h. omega (arith, same, rises l.taker, relaxed (subst (λ r. HasPath g p l.taker b r (l.tokens + 1)) same h)))
          ]
    ]
  where
    later : (y : ℕ × ℕ) → Contains mid y → Contains ((get_or now k.giver 0 - k.tokens, k.taker) ∷ mid) y
    later y c = Contains-append_right ((get_or now k.giver 0 - k.tokens, k.taker) ∷ []) mid y c

    rises : (w : ℕ) → get_or now w 0 ≤ get_or (set now k.taker (get_or now k.giver 0 - k.tokens)) w 0
    rises w = elim (cases_eq w k.taker) [
      | inl e ↦ omega (arith, more, ap (λ j. get_or now j 0) e, ap (λ j. get_or (set now k.taker (get_or now k.giver 0 - k.tokens)) j 0) e, get_or-set_same now k.taker (get_or now k.giver 0 - k.tokens) 0 ends.taker)
      | inr n ↦ omega (arith, get_or-set_other now k.taker w (get_or now k.giver 0 - k.tokens) 0 n)
    ]

-- a place at the end of whose link the room rises is visited
followed-raised : (g : Graph) (p b t : ℕ) (x : ℕ × ℕ) (left : List (ℕ × ℕ)) (old now new : List ℕ) (before mid after : List (ℕ × ℕ))
    → (r : IsRaised g p x.0 now new mid after) → AreEnds g now r.link
    → ArePassed g p b t (x ∷ left) old now before mid → ArePassed g p b t left old new before after
followed-raised g p b t x left old now new before mid after r ends w =
    let l = r.link in
    let u = l.taker in
    let v = get_or now l.giver 0 - l.tokens in
    let place : x.0 ≡ l.place = sym (link_place g x.0 l r.at) in
    let at : link_at g l.place ≡ Some l = ap (link_at g) (sym place) ∙ r.at in
    subst (λ rooms. ArePassed g p b t left old rooms before after) (sym r.set) (record {
      long = length-set now u v ∙ w.long;
      small = λ all few. set_small all now u v (omega (arith, w.small all few l.giver 0 ends.giver)) (w.small all few);
      grown = λ j. elim (cases_eq j u) [
        | inl e ↦ omega (arith, w.grown j, r.more, ap (λ i. get_or now i 0) e, ap (λ i. get_or (set now u v) i 0) e, get_or-set_same now u v 0 ends.taker)
        | inr n ↦ omega (arith, w.grown j, get_or-set_other now u j v 0 n)
      ];
      live = λ each. All-permutation (λ (y : ℕ × ℕ). IsTrans g y.1) ((v, u) ∷ mid) after r.listed (All-cons (λ (y : ℕ × ℕ). IsTrans g y.1) (v, u) mid ends.live (w.live each));
      reached = λ a all s. raised_reached g p a all now l ends at (λ e. r.other (place ∙ e)) r.more (w.reached a all s);
      spent = λ all few. omega (arith, w.spent all few, raised_spent all now u v mid after ends.taker (omega (arith, r.more)) (omega (arith, w.small all few l.giver 0 ends.giver)) r.listed);
      relaxed = λ s. raised_relaxed g p b t x left now mid after l ends r.at r.more r.listed (w.relaxed s);
    })

-- a place that is visited
pub visited : (g : Graph) (p b t : ℕ) (x : ℕ × ℕ) (all left : List (ℕ × ℕ)) (old now new : List ℕ) (before mid after : List (ℕ × ℕ))
    → IsWeightlessPastLast g → IsWeightlessWhereRemoved g → length now ≡ length g.trans → all ≡ x ∷ left
    → IsVisited g p b x.0 now new mid after
    → ArePassed g p b t all old now before mid → ArePassed g p b t left old new before after
visited g p b t x all left old now new before mid after narrow gone long split v w = go v (subst (λ xs. ArePassed g p b t xs old now before mid) split w)
  where
    go : IsVisited g p b x.0 now new mid after → ArePassed g p b t (x ∷ left) old now before mid → ArePassed g p b t left old new before after
    go (inl k) w = subst (λ rooms. ArePassed g p b t left old rooms before after) (sym k.rooms) (subst (ArePassed g p b t left old now before) (sym k.entries) (followed-kept g p b t x left old now before mid k.relaxed w))
    go (inr r) w =
        let at = link_is g x.0 r.link narrow r.at in
        followed-raised g p b t x left old now new before mid after r (record { giver = omega (arith, at.giver_below, long); taker = omega (arith, at.taker_below, long); live = taker_live g x.0 r.link narrow gone r.at }) w

-- an element of a longer list is its first or one of the rest
cons_case : {X : Type 0} (x : X) (xs : List X) (y : X) → Contains (x ∷ xs) y → (x ≡ y) ⊎ Contains xs y
cons_case x xs y (zero, low, e) = inl e
cons_case x xs y (suc k, low, e) = inr (k, omega (arith, low), e)

-- the transition of an entry that is taken is live
pub popped_live : (g : Graph) (entries rest : List (ℕ × ℕ)) (x : ℕ × ℕ) → IsPermutation entries (x ∷ rest)
    → AreEntriesLive g entries → IsTrans g x.1 × AreEntriesLive g rest
popped_live g entries rest x popped live =
    let all = All-permutation (λ (y : ℕ × ℕ). IsTrans g y.1) entries (x ∷ rest) popped live in
    (All-head (λ (y : ℕ × ℕ). IsTrans g y.1) x rest all, All-tail (λ (y : ℕ × ℕ). IsTrans g y.1) x rest all)

-- where the links of an entry's transition are visited, the search stands as before
pub followed_search : (g : Graph) (p a b all : ℕ) (rooms new : List ℕ) (entries rest after : List (ℕ × ℕ)) (x : ℕ × ℕ)
    → IsPermutation entries (x ∷ rest) → ArePassed g p b x.1 [] rooms new rest after
    → IsSearch g p a b all rooms entries → IsSearch g p a b all new after
followed_search g p a b all rooms new entries rest after x popped f s = record {
  long = f.long ∙ s.long;
  small = f.small all s.small;
  first = omega (arith, s.first, f.grown a);
  live = f.live (popped_live g entries rest x popped s.live).1;
  reached = f.reached a all s.reached;
  relaxed = λ l at other. elim (f.relaxed before l at other) [
    | inl (inl listed) ↦ inl listed
    | inl (inr (e, never)) ↦ absurd never
    | inr relaxed ↦ inr relaxed
  ];
}
  where
    before : AreRelaxed g p b rooms (λ l. IsListed rest rooms l.giver ⊎ (l.giver ≡ x.1))
    before l at other = elim (s.relaxed l at other) [
      | inl listed ↦ elim (cons_case x rest (get_or rooms l.giver 0, l.giver) (Contains-permutation entries (x ∷ rest) (get_or rooms l.giver 0, l.giver) popped listed)) [
        | inl e ↦ inl (inr (sym (ap (λ (y : ℕ × ℕ). y.1) e)))
        | inr rest ↦ inl (inl rest)
      ]
      | inr relaxed ↦ inr relaxed
    ]

-- where an entry isn't the room of its transition, the search stands without it
pub stale_search : (g : Graph) (p a b all : ℕ) (rooms : List ℕ) (entries rest : List (ℕ × ℕ)) (x : ℕ × ℕ)
    → IsPermutation entries (x ∷ rest) → x.0 ≢ get_or rooms x.1 0
    → IsSearch g p a b all rooms entries → IsSearch g p a b all rooms rest
stale_search g p a b all rooms entries rest x popped stale s = record {
  long = s.long;
  small = s.small;
  first = s.first;
  live = (popped_live g entries rest x popped s.live).1;
  reached = s.reached;
  relaxed = λ l at other. elim (s.relaxed l at other) [
    | inl listed ↦ elim (cons_case x rest (get_or rooms l.giver 0, l.giver) (Contains-permutation entries (x ∷ rest) (get_or rooms l.giver 0, l.giver) popped listed)) [
      | inl e ↦ absurd (stale (ap (λ (y : ℕ × ℕ). y.0) e ∙ sym (ap (λ (y : ℕ × ℕ). get_or rooms y.1 0) e)))
      | inr rest ↦ inl rest
    ]
    | inr relaxed ↦ inr relaxed
  ];
}

-- a list of zeros has a zero at each place
zero_at : (zeros : List ℕ) → All (λ room. room ≡ 0) zeros → (t : ℕ) → get_or zeros t 0 ≡ 0
zero_at zeros all t = elim (cases_lt t (length zeros)) [ inl low ↦ all t 0 low | inr past ↦ get_or_past zeros t 0 past ]

-- how a search begins
pub starting : (g : Graph) (p a b all : ℕ) (zeros : List ℕ) (entries : List (ℕ × ℕ)) → All (λ room. room ≡ 0) zeros
    → a < length zeros → length zeros ≡ length g.trans → IsTrans g a → IsPermutation ((all, a) ∷ []) entries
    → IsSearch g p a b all (set zeros a all) entries
starting g p a b all zeros entries none low long live listed =
    let is : get_or (set zeros a all) a 0 ≡ all = get_or-set_same zeros a all 0 low in record {
      long = length-set zeros a all ∙ long;
      small = set_small all zeros a all (omega arith) (λ k d l. omega (arith, none k d l));
      first = omega (arith, is);
      live = All-permutation (λ (y : ℕ × ℕ). IsTrans g y.1) ((all, a) ∷ []) entries listed (All-cons (λ (y : ℕ × ℕ). IsTrans g y.1) (all, a) [] live (All-nil (λ (y : ℕ × ℕ). IsTrans g y.1)));
      reached = λ t some. elim (cases_eq t a) [
        | inl e ↦ record { path = []; leads = sym e; few = omega (arith, is, ap (λ j. get_or (set zeros a all) j 0) e) }
        | inr n ↦ absurd (omega (arith, some, get_or-set_other zeros a t all 0 n, zero_at zeros none t))
      ];
      relaxed = λ l at other. elim (cases_eq l.giver a) [
        | inl e ↦ inl (subst (λ j. Contains entries (get_or (set zeros a all) j 0, j)) (sym e) (subst (λ r. Contains entries (r, a)) (sym is) (Contains-permutation ((all, a) ∷ []) entries (all, a) listed (0, omega arith, refl))))
        | inr n ↦ inr (λ h. omega (arith, get_or-set_other zeros a l.giver all 0 n, zero_at zeros none l.giver))
      ];
    }
