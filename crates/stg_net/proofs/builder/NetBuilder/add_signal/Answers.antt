use Rattle.std.proofs.Common.{◌≡◌, [], ◌∷◌, ◌++◌, None, map, ap, ◌∙◌, List, ℕ}
use Rattle.stg_net.specs.Net.{number_of}
use Rattle.stg_net.specs.Building.{Building}
use Rattle.stg_net.specs.Builder.{entry_signal}
use Rattle.stg_net.proofs.Names.{inserted-signals}
use Rattle.stg_net.proofs.builder.NetBuilder.add_signal.Goals as goal

pub returns-clause-ok : goal.returns-clause-ok
returns-clause-ok c =
    let key = c.in_ok-name.name in
    let none : number_of key.items (map entry_signal c.self.inside.signals.entries) ≡ None =
    ap (λ (n : List ℕ). number_of n (map entry_signal c.self.inside.signals.entries)) c.in_ok-name.ensures.items
    ∙ ap (λ (d : Building). number_of c.args.name.now d.lists.signals) c.self.view_is ∙ c.requires in
    let more : map entry_signal c.insert.new.self.entries ≡ c.args.self.now.lists.signals ++ record { name = c.args.name.now; kind = c.args.kind } ∷ [] =
    ap (map entry_signal) c.in_ok-insert.ensures.entries ∙ inserted-signals c.self.inside.signals key c.args.kind none
    ∙ ap (λ (d : Building). d.lists.signals ++ entry_signal (key, c.args.kind) ∷ []) c.self.view_is
    ∙ ap (λ (n : List ℕ). c.args.self.now.lists.signals ++ record { name = n; kind = c.args.kind } ∷ []) c.in_ok-name.ensures.items in
    let same = c.self.view_is in
    (λ j. record { limits = (same j).limits; lists = record { signals = more j; trans = (same j).lists.trans; tokens = (same j).lists.tokens; arcs = (same j).lists.arcs } })
