use Rattle.std.proofs.Common.{◌≡◌, ◌∙◌, ◌||◌, ℕ, Bool, List, length, ap, sym, subst}
use Rattle.std.proofs.lemmas.Result.{IfOk-weaker}
use Rattle.stg_net.specs.declared.signal.Signal.{Signal}
use Rattle.stg_net.specs.Component.{is_one_of}
use Rattle.stg_net.specs.Ordered.{numbers_where}
use Rattle.stg_laws.specs.Groups.{known_to}
use Rattle.stg_partition.specs.inner.Marked.{takes_by_arc, shows_at, mark_at, AreMarks}
use Rattle.stg_partition.proofs.Knowing.{known_is}
use Rattle.stg_partition.proofs.known.list_known.Goals as goal

pub returns : goal.returns
returns c =
    let n = c.args.net.now in
    let own = c.args.own.now in
    let places = c.as_slice.result.now in
    let marks = c.as_slice-2.result.now in
    let Taken : List Bool → Type 0 = λ ms. AreMarks (takes_by_arc n own) n.arcs ms in
    let Seen : List Bool → Type 0 = λ ms. AreMarks (shows_at n places) n.arcs ms in
    let taken = subst Taken (sym c.as_slice.ensures.value) c.in_ok-places.ensures.marks in
    let seen = subst Seen (sym c.as_slice-2.ensures.value) c.in_ok-marks.ensures.marks in
    let listed : List Signal → List ℕ = λ signals. numbers_where (λ s. is_one_of own s || mark_at marks s) (length signals) in
    IfOk-weaker c.list_marked.result (λ known. known ≡ listed c.signals.result.now) (λ known. known ≡ known_to n own)
    (λ known same. same ∙ ap listed c.signals.ensures.signals ∙ known_is n own places marks c.signals.ensures.net taken seen)
    c.list_marked.ensures
