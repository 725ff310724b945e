use Rattle.std.proofs.Common.{List, ℕ, Contains, subst, sym}
use Rattle.stg_redundant.proofs.watch.PlaceWatch.next_levelled.Goals as goal

pub returns-in_err-resize-clause-dropped : goal.returns-in_err-resize-clause-dropped
returns-in_err-resize-clause-dropped c p h = subst (λ (xs : List ℕ). Contains xs p) c.self.view_is h

pub find_last-requires-clause-watched : goal.find_last-requires-clause-watched
find_last-requires-clause-watched c p redundant =
    subst (λ (xs : List ℕ). Contains xs p) (sym c.self.view_is) (c.requires.watched p redundant)

pub returns-clause-kept : goal.returns-clause-kept
returns-clause-kept c p h =
    c.find_last.ensures.kept p (subst (λ (xs : List ℕ). Contains xs p) (sym c.self.view_is) h)

pub returns-clause-dropped : goal.returns-clause-dropped
returns-clause-dropped c p h =
    subst (λ (xs : List ℕ). Contains xs p) c.self.view_is (c.find_last.ensures.dropped p h)
