-- Hand-written answers for `LinkLayer::request`.
use Rattle.lapd_line.proofs.Vocabulary.{◌∙◌, [], aim_of_request, ap, nat_le, refl, refusal, request_of, Serves, subst, sym, used_slots}
use Rattle.lapd_link.specs.Events as link
use Rattle.lapd_line.proofs.RequestSteps.{refused_as, granted_as, aimed_as, link_rows, link_aim, management_rows, management_aim}
use Rattle.lapd_line.proofs.link_layer.LinkLayer.request.Goals as goal

pub unit-requires : goal.unit-requires
unit-requires g c = record { stands = c.requires.stands; clear = c.requires.clear; slots = c.requires.slots }

pub manage-requires : goal.manage-requires
manage-requires g c = record { stands = c.requires.stands; clear = c.requires.clear }

pub ask-requires : goal.ask-requires
ask-requires g c = record { stands = c.requires.stands; clear = c.requires.clear; slots = c.requires.slots }

pub deactivate-requires : goal.deactivate-requires
deactivate-requires g c = record { stands = c.requires.stands; clear = c.requires.clear }

pub give_up-requires : goal.give_up-requires
give_up-requires g c = record { stands = c.requires.stands; clear = c.requires.clear }

pub returns-in-Units-clause-refused : goal.returns-in-Units-clause-refused
returns-in-Units-clause-refused g c = refused_as _ _ _ (sym c.in-Units.ensures) (λ m. refl) c.unit.result c.unit.ensures.refused

pub returns-in-Units-clause-unchanged : goal.returns-in-Units-clause-unchanged
returns-in-Units-clause-unchanged g c = c.unit.ensures.unchanged

pub returns-in-Units-clause-kept : goal.returns-in-Units-clause-kept
returns-in-Units-clause-kept g c = c.unit.ensures.kept

pub returns-in-Units-clause-untold : goal.returns-in-Units-clause-untold
returns-in-Units-clause-untold g c = c.unit.ensures.untold

pub returns-in-Units-clause-granted : goal.returns-in-Units-clause-granted
returns-in-Units-clause-granted g c = granted_as _ _ _ (sym c.in-Units.ensures) (λ m. refl) c.unit.result c.unit.ensures.granted

pub returns-in-Units-clause-served : goal.returns-in-Units-clause-served
returns-in-Units-clause-served g c = aimed_as (request_of c.args.request) _ _ _ _ _ c.unit.result (ap aim_of_request (sym c.in-Units.ensures)) c.unit.ensures.served

pub returns-in-Management-clause-refused : goal.returns-in-Management-clause-refused
returns-in-Management-clause-refused g c =
    refused_as _ _ _ (sym c.in-Management.ensures) (management_rows c.args.self.now.config (nat_le c.args.slots (used_slots (g.S.Shelf.store c.args.shelf.now))) c.in-Management.asked c.in-Management.tei) c.manage.result c.manage.ensures.refused

pub returns-in-Management-clause-unchanged : goal.returns-in-Management-clause-unchanged
returns-in-Management-clause-unchanged g c = c.manage.ensures.unchanged

pub returns-in-Management-clause-kept : goal.returns-in-Management-clause-kept
returns-in-Management-clause-kept g c = c.manage.ensures.kept

pub returns-in-Management-clause-untold : goal.returns-in-Management-clause-untold
returns-in-Management-clause-untold g c = c.manage.ensures.untold

pub returns-in-Management-clause-granted : goal.returns-in-Management-clause-granted
returns-in-Management-clause-granted g c =
    granted_as _ _ _ (sym c.in-Management.ensures) (management_rows c.args.self.now.config (nat_le c.args.slots (used_slots (g.S.Shelf.store c.args.shelf.now))) c.in-Management.asked c.in-Management.tei) c.manage.result c.manage.ensures.granted

pub returns-in-Management-clause-served : goal.returns-in-Management-clause-served
returns-in-Management-clause-served g c =
    aimed_as (request_of c.args.request) _ _ _ _ _ c.manage.result (ap aim_of_request (sym c.in-Management.ensures) ∙ management_aim c.in-Management.asked c.in-Management.tei) c.manage.ensures.served

pub returns-in-Link-clause-refused : goal.returns-in-Link-clause-refused
returns-in-Link-clause-refused g c =
    refused_as _ _ _ (sym c.in-Link.ensures) (link_rows c.args.self.now.config (nat_le c.args.slots (used_slots (g.S.Shelf.store c.args.shelf.now))) c.in-Link.service c.in-Link.tei (link.request_of c.in-Link.request)) c.ask.result c.ask.ensures.refused

pub returns-in-Link-clause-unchanged : goal.returns-in-Link-clause-unchanged
returns-in-Link-clause-unchanged g c = c.ask.ensures.unchanged

pub returns-in-Link-clause-kept : goal.returns-in-Link-clause-kept
returns-in-Link-clause-kept g c = c.ask.ensures.kept

pub returns-in-Link-clause-untold : goal.returns-in-Link-clause-untold
returns-in-Link-clause-untold g c = c.ask.ensures.untold

pub returns-in-Link-clause-granted : goal.returns-in-Link-clause-granted
returns-in-Link-clause-granted g c =
    granted_as _ _ _ (sym c.in-Link.ensures) (link_rows c.args.self.now.config (nat_le c.args.slots (used_slots (g.S.Shelf.store c.args.shelf.now))) c.in-Link.service c.in-Link.tei (link.request_of c.in-Link.request)) c.ask.result c.ask.ensures.granted

pub returns-in-Link-clause-served : goal.returns-in-Link-clause-served
returns-in-Link-clause-served g c =
    aimed_as (request_of c.args.request) _ _ _ _ _ c.ask.result (ap aim_of_request (sym c.in-Link.ensures) ∙ link_aim c.in-Link.service c.in-Link.tei (link.request_of c.in-Link.request)) c.ask.ensures.served

pub returns-in-LinkDown-clause-refused : goal.returns-in-LinkDown-clause-refused
returns-in-LinkDown-clause-refused g c = refused_as _ _ _ (sym c.in-LinkDown.ensures) (λ m. refl) c.deactivate.result c.deactivate.ensures.refused

pub returns-in-LinkDown-clause-unchanged : goal.returns-in-LinkDown-clause-unchanged
returns-in-LinkDown-clause-unchanged g c = c.deactivate.ensures.unchanged

pub returns-in-LinkDown-clause-kept : goal.returns-in-LinkDown-clause-kept
returns-in-LinkDown-clause-kept g c = c.deactivate.ensures.kept

pub returns-in-LinkDown-clause-untold : goal.returns-in-LinkDown-clause-untold
returns-in-LinkDown-clause-untold g c = c.deactivate.ensures.untold

pub returns-in-LinkDown-clause-granted : goal.returns-in-LinkDown-clause-granted
returns-in-LinkDown-clause-granted g c = granted_as _ _ _ (sym c.in-LinkDown.ensures) (λ m. refl) c.deactivate.result c.deactivate.ensures.granted

pub returns-in-LinkDown-clause-served : goal.returns-in-LinkDown-clause-served
returns-in-LinkDown-clause-served g c = aimed_as (request_of c.args.request) _ _ _ _ _ c.deactivate.result (ap aim_of_request (sym c.in-LinkDown.ensures)) c.deactivate.ensures.served

pub returns-in-LineDown-clause-granted : goal.returns-in-LineDown-clause-granted
returns-in-LineDown-clause-granted g c = λ others m st.
    ap (λ r. refusal c.args.self.now.config (nat_le c.args.slots (used_slots (g.S.Shelf.store c.args.shelf.now))) r m) (sym c.in-LineDown.ensures)

pub returns-in-LineDown-clause-served : goal.returns-in-LineDown-clause-served
returns-in-LineDown-clause-served g c =
    subst (λ r. Serves (aim_of_request r) [] c.args.self.now (g.S.Shelf.store c.args.shelf.now) c.give_up.new.self (g.S.Shelf.store c.give_up.new.shelf) c.give_up.new.report) c.in-LineDown.ensures c.give_up.ensures
