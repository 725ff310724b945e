use Rattle.std.proofs.Common.{◌≡◌, ◌++◌, ap, sym, subst, ◌∙◌}
use Rattle.astg_write.specs.PlaceNames.{place_prefix}
use Rattle.astg_write.specs.ComponentText.{model_line, net_lines, component_text}
use Rattle.astg_write.specs.ReadsBack.{ReadsBack}
use Rattle.astg_write.proofs.WrittenBack.{component-reads_back}
use Rattle.astg_write.proofs.component.write_net.Goals as goal

pub returns : goal.returns
unfolding component_text
returns c =
    let prefix : c.as_slice.result.now ≡ place_prefix c.args.net.now.signals =
    c.as_slice.ensures ∙ c.in_ok-prefix.ensures ∙ ap place_prefix c.signals.ensures.signals in
    let value : c.push_lines.new.text ≡ component_text c.args.net.now c.args.part =
    c.in_ok-push_lines.ensures
    ∙ ap (λ text. text ++ net_lines c.as_slice.result.now c.args.net.now) c.in_ok-text.ensures
    ∙ ap (λ p. model_line c.args.part ++ net_lines p c.args.net.now) prefix in
    record {
      value = value;
      reads_back = λ whole in_order.
          subst (ReadsBack c.args.net.now) (sym value)
          (component-reads_back c.args.net.now c.signals.ensures.net c.requires c.args.part c.ranges.part.fits whole in_order);
    }
