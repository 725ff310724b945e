use Rattle.std.proofs.Common.{◌≡◌}
use Rattle.std.specs.List.{list_any}
use Rattle.stg_conflict.specs.inner.Labels.{WalksTrans}
use Rattle.stg_conflict.specs.inner.Notes.{is_like}
use Rattle.stg_conflict.proofs.noted.has_like.Given as goal

-- none so far
abbrev pub invariant-loop-v : goal.invariant-loop-v
invariant-loop-v l = record {
  live : WalksTrans l.editor.now l.v-iterator;
  left : list_any (is_like l.editor.now l.u) l.v-iterator ≡ list_any (is_like l.editor.now l.u) l.fn.walk;
}
