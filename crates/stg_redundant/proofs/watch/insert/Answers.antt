use Rattle.std.proofs.Common.{◌≡◌, ◌<◌, ◌≤◌, ℕ, List, length, get_or, nat_cmp, Err, Contains, inl, subst, sym}
use Rattle.std.specs.List.Sorted.{IsStrictlyIncreasing, IsBinarySearchResult}
use Rattle.std.proofs.lemmas.List.Sorted.{searched}
use Rattle.stg_redundant.specs.Watching.{HasBesides}
use Rattle.stg_redundant.proofs.WatchLists.{insert_has, insert_ascends, not_past}
use Rattle.stg_redundant.proofs.watch.insert.Goals as goal

pub returns-in_ok-insert-in-Err-clause-ok : goal.returns-in_ok-insert-in-Err-clause-ok
returns-in_ok-insert-in-Err-clause-ok c =
    subst (HasBesides (λ q. q ≡ c.args.p) c.args.numbers.now.items) (sym c.in_ok-insert-in-Err.ensures.items) (insert_has c.args.numbers.now.items c.in-Err.at c.args.p)

pub returns-in_ok-insert-in-Err-clause-ascending :
    goal.returns-in_ok-insert-in-Err-clause-ascending
returns-in_ok-insert-in-Err-clause-ascending c =
    let xs = c.args.numbers.now.items in
    let up : (i j : ℕ) → i ≤ j → j < length xs → get_or xs i 0 ≤ get_or xs j 0 = not_past xs c.requires.ascending in
    let is = subst (IsBinarySearchResult (λ y. nat_cmp y c.args.p) xs) c.in-Err.is (subst (λ (ys : List ℕ). IsBinarySearchResult (λ y. nat_cmp y c.args.p) ys c.binary_search.result) c.deref.ensures.value c.binary_search.ensures.position) in
    let at = searched xs c.args.p (Err c.in-Err.at) is up in
    subst IsStrictlyIncreasing (sym c.in_ok-insert-in-Err.ensures.items) (insert_ascends xs c.in-Err.at c.args.p c.requires.ascending at.0 at.1 at.2)

pub returns-in_ok-insert-in-Err-clause-kept : goal.returns-in_ok-insert-in-Err-clause-kept
returns-in_ok-insert-in-Err-clause-kept c q h =
    subst (λ (ys : List ℕ). Contains ys q) (sym c.in_ok-insert-in-Err.ensures.items) ((insert_has c.args.numbers.now.items c.in-Err.at c.args.p q).1 (inl h))
