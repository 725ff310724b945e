-- What a reader that meets its contract makes of a text that is read back.
use Rattle.std.proofs.Common.{◌≡◌, ℕ, List, Result, Ok, Err, sym, ◌∙◌, subst}
use Rattle.stg_net.specs.declared.limits.TheConstants.Limits.{PART}
use Rattle.stg_net.specs.Net.{NetLists}
use Rattle.astg_read.specs.declared.rule.Rule.{Rule}
use Rattle.astg_read.specs.Reading.{Meaning, Fault, IsSpecOf}
use Rattle.astg_read.specs.Standing.{StandsForNet, IsUnread}
use Rattle.astg_write.specs.ReadsBack.{ReadsBack}

-- what a text means that isn't refused
abbrev reading_ok : Meaning → Result Meaning Fault
reading_ok m = Ok m

-- the net that the text stands for is the one that it is read back as
pub net_read_back : (n m : NetLists) (text : List ℕ)
    → ReadsBack n text → StandsForNet PART text m → m ≡ n
net_read_back n m text back stands_for =
    let same : reading_ok back.meaning ≡ reading_ok stands_for.stands.meaning =
    sym back.stands ∙ stands_for.stands.reads in
    let meaning : stands_for.stands.meaning ≡ back.meaning = cc in
    sym stands_for.net
    ∙ back.only stands_for.spec
    (subst (λ m. IsSpecOf m stands_for.spec) meaning stands_for.stands.is)

-- a text that is read back isn't refused
pub never_unread : (n : NetLists) (text : List ℕ) (rule : Rule) (line : ℕ)
    → ReadsBack n text → IsUnread PART text rule line → ⊥
never_unread n text rule line back unread =
    let never : Ok back.meaning ≡ Err (let f : Fault = record { rule = rule; line = line } in f) =
    sym back.stands ∙ unread in
    cc
