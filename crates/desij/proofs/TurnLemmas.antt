-- What one connection does, and what many do one after the other.
use Rattle.std.proofs.Common.{◌≡◌, ◌∙◌, ℕ, zero, suc, ◌+◌, ◌<◌, ◌≤◌, ◌⊎◌, Bool, true, false, List, [], ◌∷◌, ◌++◌, drop, Option, None, Some, IfSome, IsSome, is_some, refl, sym, ap, ap₂, subst, inl, inr, arith, append_assoc, append-nil, true≢false}
use Rattle.std.specs.Option.{option_map}
use Rattle.std.specs.Io.KnownBytes.{append_known}
use Rattle.std.proofs.lemmas.List.{drop-drop}
use Rattle.io_shelf.specs.Doors.{Links, SeenDoors, SeenLink, TellsBytes, first_link, links_at, listened_at, with_finished, without_first}
use Rattle.io_shelf.specs.Outside.{Rose}
use Rattle.job_keeper.specs.declared.project.Project.{Project}
use Rattle.job_keeper.specs.Keeping.{SeenKeeper, SeenVault, Stored, projects_under}
use Rattle.desk_http.specs.Answering.{memory_failure}
use Rattle.desk_http.specs.Serving.{BreaksInReading, BreaksInWriting, IsMachines, IsReplyMade, LacksKeeper, Serves, StaysSure, seen_connection}
use Rattle.desk_http.specs.declared.reply.Reply.{Reply}
use Rattle.desk_http.specs.declared.served.Served.{Served}
use Rattle.desk_http.specs.declared.served.Served.TheVariants as served
use Rattle.desij.specs.Served.{ServesAll, ServesSome, Tells}
use Rattle.desij.specs.Sitting.{IsRepliedTo, IsServed, IsSitting, IsWritten, first_links}
use Rattle.desij.specs.inner.Turns.{HasNext, HasServed, HasStopped, ServesNext, ServesTurns, Stands, StopsTurns}
use Rattle.desij_words.specs.Serving.{Serving}
use Rattle.desij.proofs.SittingLemmas.{drop-nothing, first_links-more, sitting-more}

-- ---- one connection

-- a keeper that can't fail has no fault to tell
no_fault : (reply : Reply) (k k' : SeenKeeper) (came done : SeenLink) → k.can_fail ≡ false → k.faults ≡ 0 → StaysSure k k' → LacksKeeper reply (seen_connection k came) (seen_connection k' done) → ⊥
no_fault reply k k' came done sure none stays lacks = omega (arith, none, stays.none sure none, lacks.rose)

-- the machine's reply to the bytes of a link that tells them, over the keeper's own projects
record Replied (projects : List Project) (came : SeenLink) (reply : Reply) (now : Option (List Project)) : Type 0 where
  after : List Project
  now_is : now ≡ Some after
  replied : IsRepliedTo projects came reply after

machine : (projects : List Project) (bytes : List ℕ) (reply : Reply) (k k' : SeenKeeper) (came done : SeenLink) → k.projects ≡ Some projects → came.left ≡ Some bytes → IsMachines reply (seen_connection k came) (seen_connection k' done) → Replied projects came reply k'.projects
machine projects bytes reply k k' came done told left m =
    let leaves = m.told projects told in
    record {
      after = leaves.after;
      now_is = leaves.is;
      replied = record { bytes = bytes; left = left; replies = record { asked = m.asked; asks = m.asks bytes left; answers = leaves.answers } };
    }

-- what became of the projects and the link
record IsTurn (projects : List Project) (came done : SeenLink) (now : Option (List Project)) : Type 0 where
  after : List Project
  now_is : now ≡ Some after
  served : IsServed projects came done after

turn : (projects : List Project) (bytes : List ℕ) (k k' : SeenKeeper) (came done : SeenLink) (r : Served) → k.projects ≡ Some projects → k.can_fail ≡ false → k.faults ≡ 0 → came.left ≡ Some bytes → StaysSure k k' → Serves (seen_connection k came) (seen_connection k' done) r → IsTurn projects came done k'.projects
turn projects bytes k k' came done (served.Replied status) told sure none left stays s = by s.is
  where
    by : IsReplyMade s.reply (seen_connection k came) (seen_connection k' done) → IsTurn projects came done k'.projects
    by (inl m) =
        let is = machine projects bytes s.reply k k' came done told left m in
        record { after = is.after; now_is = is.now_is; served = inl (record { reply = s.reply; is = is.replied; written = s.written }) }
    by (inr (inl m)) =
        let written : IsWritten memory_failure.text came done = s.written ∙ ap (λ (q : Reply). append_known came.written q.text) m.is in
        record { after = projects; now_is = m.kept ∙ told; served = inr (inl (record { same = refl; written = written })) }
    by (inr (inr m)) = absurd (no_fault s.reply k k' came done sure none stays m)
turn projects bytes k k' came done served.LinkFault told sure none left stays s = by s.turn
  where
    as_before : k'.projects ≡ k.projects → IsTurn projects came done k'.projects
    as_before kept = record { after = projects; now_is = kept ∙ told; served = inr (inr (record { rose = s.rose; projects = inl refl })) }

    broke : (reply : Reply) → IsReplyMade reply (seen_connection k came) (seen_connection k' done) → IsTurn projects came done k'.projects
    broke reply (inl m) =
        let is = machine projects bytes reply k k' came done told left m in
        record { after = is.after; now_is = is.now_is; served = inr (inr (record { rose = s.rose; projects = inr (reply, is.replied) })) }
    broke reply (inr (inl m)) = as_before m.kept
    broke reply (inr (inr m)) = absurd (no_fault reply k k' came done sure none stays m)

    by : BreaksInReading (seen_connection k came) (seen_connection k' done) ⊎ BreaksInWriting (seen_connection k came) (seen_connection k' done) → IsTurn projects came done k'.projects
    by (inl reading) = as_before reading.kept
    by (inr writing) = broke writing.reply writing.is

of_some : {A : Type 0} (o : Option A) → IsSome o → (x : A) × (o ≡ Some x)
of_some None h = absurd (true≢false (sym h))
of_some (Some x) h = (x, refl)

-- The first link came, was served and was handed back.
pub next-served : (k k' : SeenKeeper) (d d1 d2 : SeenDoors) (came done : SeenLink) (r : Served)
    → IfSome d.links (λ (ls : Links). came ≡ first_link ls.coming) → (IsSome d.links → TellsBytes came) → d1.links ≡ without_first d.links → d2.links ≡ with_finished done d1.links
    → StaysSure k k' → Serves (seen_connection k came) (seen_connection k' done) r → ServesNext k d k' d2
next-served k k' d d1 d2 came done r value tells came_off handed stays serves projects links s =
    let is_first : came ≡ first_link links.coming = subst (λ (o : Option Links). IfSome o (λ ls. came ≡ first_link ls.coming)) s.has_links value in
    let bytes = of_some came.left (tells (ap is_some s.has_links)).left in
    let t = turn projects bytes.0 k k' came done r s.has_projects s.never_fails s.faultless bytes.1 stays serves in
    record {
      after = t.after;
      done = done;
      served = subst (λ (l : SeenLink). IsServed projects l done t.after) is_first t.served;
      stands = record {
        has_projects = t.now_is;
        never_fails = stays.same ∙ s.never_fails;
        faultless = stays.none s.never_fails s.faultless;
        has_links = handed ∙ ap (with_finished done) (came_off ∙ ap without_first s.has_links);
      };
    }

-- ---- many connections

abbrev with_links : Links → List SeenLink → List SeenLink → Links
with_links links coming finished = record links { coming = coming; finished = finished }

pub none-served : (k : SeenKeeper) (d : SeenDoors) → ServesTurns 0 k d k d
none-served k d projects links s = record {
  now = links;
  served = record {
    finished = [];
    after = projects;
    sitting = refl;
    is = ap₂ (with_links links) (sym (drop-nothing links.coming)) (sym (append-nil links.finished));
  };
  stands = s;
}

-- one more after some
pub more-served : (n : ℕ) (k0 k k' : SeenKeeper) (d0 d d' : SeenDoors) → ServesTurns n k0 d0 k d → ServesNext k d k' d' → ServesTurns (n + 1) k0 d0 k' d'
more-served n k0 k k' d0 d d' turns next projects links s =
    let h = turns projects links s in
    let x = next h.served.after h.now h.stands in
    let one_more : suc n ≡ n + 1 = omega arith in
    let rest : h.now.coming ≡ drop n links.coming = ap (λ (ls : Links). ls.coming) h.served.is in
    let done = h.served.finished ++ x.done ∷ [] in
    let served : IsServed h.served.after (first_link (drop n links.coming)) x.done x.after = subst (λ (ls : List SeenLink). IsServed h.served.after (first_link ls) x.done x.after) rest x.served in
    let sits = sitting-more projects (first_links n links.coming) h.served.finished h.served.after (first_link (drop n links.coming)) x.done x.after h.served.sitting served in
    let moved : Links → Links = λ (ls : Links). with_links ls (drop 1 ls.coming) (ls.finished ++ x.done ∷ []) in
    record {
      now = moved h.now;
      served = record {
        finished = done;
        after = x.after;
        sitting = subst (λ (ls : List SeenLink). IsSitting projects ls done x.after) (sym (first_links-more n links.coming) ∙ ap (λ (m : ℕ). first_links m links.coming) one_more) sits;
        is = ap moved h.served.is ∙ ap₂ (with_links links) (drop-drop 1 n links.coming) (append_assoc links.finished h.served.finished (x.done ∷ []));
      };
      stands = x.stands;
    }

-- after some the doors failed
pub some-served : (n count : ℕ) (k0 k : SeenKeeper) (d0 d d' : SeenDoors) → n < count → ServesTurns n k0 d0 k d → d'.links ≡ d.links → StopsTurns count k0 d0 d'
some-served n count k0 k d0 d d' fewer turns same projects links s =
    let h = turns projects links s in
    record { turns = n; fewer = fewer; now = h.now; is = same ∙ h.stands.has_links; served = h.served }

-- ---- a run that serves

-- a keeper was given and the doors listen
pub at-start : (asked : Serving) (stored : Stored) (links : Links) (vault : SeenVault) (d d' : SeenDoors) (k : SeenKeeper) → Tells vault d stored links
    → k.projects ≡ option_map (projects_under asked.database) vault.stored → (vault.keepers_fail ≡ false → k.can_fail ≡ false) → k.faults ≡ 0 → d'.links ≡ listened_at asked.addr d.links
    → Stands k d' (projects_under asked.database stored) (links_at asked.addr links)
at-start asked stored links vault d d' k tells projects sure none listens = record {
  has_projects = projects ∙ ap (option_map (projects_under asked.database)) tells.has_stored;
  never_fails = sure tells.never_fails;
  faultless = none;
  has_links = listens ∙ ap (listened_at asked.addr) tells.has_links;
}

-- all were served that were asked for
pub all-served : (asked : Serving) (vault : SeenVault) (k k' : SeenKeeper) (d d' d'' : SeenDoors)
    → k.projects ≡ option_map (projects_under asked.database) vault.stored → (vault.keepers_fail ≡ false → k.can_fail ≡ false) → k.faults ≡ 0 → d'.links ≡ listened_at asked.addr d.links
    → ServesTurns asked.count k d' k' d'' → ServesAll asked vault d d''
all-served asked vault k k' d d' d'' projects sure none listens turns stored links tells =
    let h = turns (projects_under asked.database stored) (links_at asked.addr links) (at-start asked stored links vault d d' k tells projects sure none listens) in
    (h.now, h.stands.has_links, h.served)

-- fewer were
pub fewer-served : (asked : Serving) (vault : SeenVault) (k : SeenKeeper) (d d' d'' : SeenDoors)
    → k.projects ≡ option_map (projects_under asked.database) vault.stored → (vault.keepers_fail ≡ false → k.can_fail ≡ false) → k.faults ≡ 0 → d'.links ≡ listened_at asked.addr d.links
    → StopsTurns asked.count k d' d'' → ServesSome asked vault d d''
fewer-served asked vault k d d' d'' projects sure none listens stops stored links tells =
    let h = stops (projects_under asked.database stored) (links_at asked.addr links) (at-start asked stored links vault d d' k tells projects sure none listens) in
    (h.now, h.is, inr (record { count = h.turns; fewer = h.fewer; serves = h.served }))
