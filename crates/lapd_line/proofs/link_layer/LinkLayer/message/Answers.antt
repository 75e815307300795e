-- Hand-written answers for `LinkLayer::message`.
use Rattle.lapd_line.proofs.Vocabulary.{◌≡◌, true, sym, ◌∙◌, Unserved, dropped, drop_for, parts_of, is_ui, at_management, message_at, serves_messages}
use Rattle.model_teis.specs.network.Events as teis
use Rattle.lapd_line.proofs.AddressSteps.{serves_as, serves_none, message_of_ui, no_ui, not_ours}
use Rattle.lapd_line.proofs.link_layer.LinkLayer.message.Goals as goal
use Rattle.lapd_line.proofs.link_layer.LinkLayer.message.Goals.{then-not-is_ui-via-then-not-is_ui, then-not-is_ui-via-else-not-is_ui+then-not-serves_messages}

pub change-requires-clause-changing : goal.change-requires-clause-changing
change-requires-clause-changing g c =
    (at_management (teis.message c.args.frame.info.now), c.args.self.now.teis, c.message-told.ensures.answers c.args.self.now.config, c.requires.stands)

pub returns : goal.returns
returns g c = λ octets.
    let ui : is_ui c.args.frame.control ≡ true = cc in
    let ours : serves_messages c.args.self.now.config (parts_of c.args.frame) ≡ true = cc in
    serves_as (λ others m st. message_of_ui c.args.self.now.config (parts_of c.args.frame) ui ours)
    (c.change.ensures (at_management (teis.message c.args.frame.info.now)) c.args.self.now.teis octets (c.message-told.ensures.answers c.args.self.now.config))

pub returns-then-not-is_ui : goal.returns-then-not-is_ui
returns-then-not-is_ui g c = λ octets.
    let config = c.args.self.now.config in
    let unserved : message_at config (parts_of c.args.frame) ≡ drop_for Unserved = elim c.then-not-is_ui.branch [
      | then-not-is_ui-via-then-not-is_ui w ↦ no_ui config (parts_of c.args.frame) (sym c.is_ui.ensures ∙ w.if-not-is_ui.true)
      | then-not-is_ui-via-else-not-is_ui+then-not-serves_messages w ↦ not_ours config (parts_of c.args.frame) (sym w.serves_messages.ensures ∙ w.if-not-serves_messages.true)
    ] in
    serves_as (λ others m st. unserved) (serves_none c.args.self.now (g.S.Shelf.store c.args.shelf.now) octets c.tell_drop.new.report (dropped Unserved) (c.tell_drop.ensures octets))
