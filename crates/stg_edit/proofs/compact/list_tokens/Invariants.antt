use Rattle.std.proofs.Common.{◌≡◌, map, take}
use Rattle.stg_net.specs.Graph.{tokens_at}
use Rattle.stg_edit.proofs.compact.list_tokens.Given as goal

abbrev pub invariant-loop-p : goal.invariant-loop-p
invariant-loop-p l = l.list ≡ map (tokens_at l.editor.now) (take l.p-index l.places)
