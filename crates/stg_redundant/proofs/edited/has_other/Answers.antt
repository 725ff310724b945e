use Rattle.std.proofs.Common.{ℕ, refl, sym, ◌∙◌, inl, inr}
use Rattle.std.proofs.lemmas.Bool.{false≢true}
use Rattle.stg_redundant.proofs.Besides.{among_split}
use Rattle.stg_redundant.proofs.Reaching.{others_later}
use Rattle.stg_redundant.proofs.edited.has_other.Goals as goal

pub returns-then-not-is_link : goal.returns-then-not-is_link
returns-then-not-is_link c =
    let p = c.in-Some.p in
    let x : ℕ × ℕ = (p, c.in-Some.field-0-1) in (
      λ told. record {
        place = p;
        one = c.loop-p.invariant.left p ((among_split x c.loop-p.p-iterator c.next.new.self c.in-Some.ensures.steps p).1 (inl refl));
        no_link = λ l. false≢true (sym c.if-not-is_link.true ∙ c.is_link.ensures.1 l);
      },
      λ h. refl,
    )

pub loop-p-preserved : goal.loop-p-preserved
loop-p-preserved c =
    let g = c.args.editor.now.now in
    let x : ℕ × ℕ = (c.in-Some.p, c.in-Some.field-0-1) in
    let whole = c.loop-p.p-iterator in
    let left = c.next.new.self in
    let steps = c.in-Some.ensures.steps in
    let link = c.is_link.ensures.0 c.if-not-is_link.false in
    record {
      left = λ q h. c.loop-p.invariant.left q ((among_split x whole left steps q).1 (inr h));
      rest = λ h. others_later g x whole left steps link (c.loop-p.invariant.rest h);
    }
