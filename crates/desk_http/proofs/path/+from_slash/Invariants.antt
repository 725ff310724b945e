use Rattle.std.proofs.Common.{length}
use Rattle.desk_http.proofs.path.+from_slash.Given as goal

abbrev pub decreases-from_slash : goal.decreases-from_slash
decreases-from_slash l = length l.text.now
