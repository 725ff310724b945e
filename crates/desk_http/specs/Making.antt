-- What the text of a project is made into: the texts of its parts, or the body of its refusal.
use Rattle.std.specs.Prelude.{◌≡◌, ◌⊎◌, ℕ, ◌+◌, List, length, map, None}
use Rattle.std.specs.List.{range_with_len}
use Rattle.stg_net.specs.declared.limits.TheConstants.Limits.{SPEC}
use Rattle.stg_net.specs.Initial.{graph_of}
use Rattle.stg_net.specs.PlaceWords.{place_word}
use Rattle.stg_net.specs.Spec.{SpecLists}
use Rattle.stg_net.specs.Words.{trans_word}
use Rattle.stg_laws.specs.Conflict.{HasNoAutoConflict, IsLeastClash}
use Rattle.stg_laws.specs.Faithful.{AreComponents}
use Rattle.stg_conflict.specs.declared.clash.Clash.{Clash}
use Rattle.astg_read.specs.declared.rule.Rule.{Rule}
use Rattle.astg_read.specs.Refusals.{rule_text}
use Rattle.astg_read.specs.Standing.{StandsFor, IsUnread}
use Rattle.astg_write.specs.ComponentText.{component_text}
use Rattle.astg_write.specs.ReadsBack.{AreReadBack}
use Rattle.stg_derive.specs.declared.part.Part.{Part}
use Rattle.stg_crew.specs.Parts.{part_at}
use Rattle.stg_decomp.specs.Parts.{AreParts, nets_of}
use Rattle.desk_http.specs.Replies.{rule_body, clash_body}
use Rattle.desk_http.specs.declared.making.Made.{Made}
use Rattle.desk_http.specs.declared.making.Made.TheVariants as made

-- the component texts of the parts' nets, numbered from 1
abbrev pub texts_of_parts : List Part → List (List ℕ)
texts_of_parts parts =
    map (λ k. component_text (part_at parts k).net (k + 1)) (range_with_len 0 (length parts))

-- The text stands for a specification without structural auto-conflicts, and these are the texts of
-- its parts, those of its plain groups. Their nets are components of it: each is faithful to it, and together they are a
-- correct decomposition of it, where it is deterministic. Each is read back from its text.
pub record ArePartTexts (text : List ℕ) (texts : List (List ℕ)) : Type 0 where
  pub spec : SpecLists
  pub stands : StandsFor SPEC text spec
  pub no_clash : HasNoAutoConflict (graph_of spec.net)
  pub parts : List Part
  pub are_parts : AreParts spec.net None parts
  pub components : AreComponents spec.net (nets_of parts)
  pub read_back : AreReadBack (nets_of parts)
  pub are_texts : texts ≡ texts_of_parts parts

-- this body tells the text's first bad line and the first rule that it breaks
pub record TellsRule (text body : List ℕ) : Type 0 where
  pub rule : Rule
  pub line : ℕ
  pub unread : IsUnread SPEC text rule line
  pub told : body ≡ rule_body (rule_text rule) line

-- the body that tells a clash of a specification
abbrev pub body_of_clash : SpecLists → Clash → List ℕ
body_of_clash spec c =
    clash_body (place_word spec c.place) (trans_word spec.net.signals spec.net.trans c.t1)
    (trans_word spec.net.signals spec.net.trans c.t2)

-- the text stands for a specification with a structural auto-conflict, and this body tells the
-- least one
pub record TellsClash (text body : List ℕ) : Type 0 where
  pub spec : SpecLists
  pub stands : StandsFor SPEC text spec
  pub clash : Clash
  pub least : IsLeastClash (graph_of spec.net) clash.t1 clash.t2 clash.place
  pub told : body ≡ body_of_clash spec clash

-- what the text is made into
abbrev pub Makes : List ℕ → Made → Type 0
Makes text (made.Parts texts) = ArePartTexts text texts
Makes text (made.Refused body) = TellsRule text body ⊎ TellsClash text body
