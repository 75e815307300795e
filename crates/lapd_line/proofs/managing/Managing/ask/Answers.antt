-- Hand-written answers for `Managing::ask`.
use Rattle.lapd_line.proofs.Vocabulary.{◌≡◌, false, refl, subst, ap, ltb-false, IfOk-weaker, asked_aim}
use Rattle.model_teis.specs.network.Events as teis
use Rattle.model_teis.specs.terminal.Events as terminals
use Rattle.lapd_line.specs.Requests.{is_bad}
use Rattle.lapd_line.proofs.ManagingSteps.{network_asked, own_asked, terminal_asked, terminal_short}
use Rattle.lapd_line.proofs.managing.Managing.ask.Goals as goal

pub returns-in-Assign-clause-answers : goal.returns-in-Assign-clause-answers
returns-in-Assign-clause-answers c =
    network_asked (asked_aim c.args.asked c.args.tei) (teis.assign c.args.tei) c.args.self.now c.in-Network.own c.assign.new.self c.assign.result
    c.in-Network.is (ap (λ a. asked_aim a c.args.tei) c.in-Assign.is) (ltb-false 126 c.args.tei (subst (λ a. is_bad a c.args.tei ≡ false) c.in-Assign.is c.requires)) c.assign.ensures.after c.assign.ensures.told

pub returns-in-Remove-clause-answers : goal.returns-in-Remove-clause-answers
returns-in-Remove-clause-answers c =
    network_asked (asked_aim c.args.asked c.args.tei) (teis.remove c.args.tei) c.args.self.now c.in-Network.own c.remove.new.self c.remove.result
    c.in-Network.is (ap (λ a. asked_aim a c.args.tei) c.in-Remove.is) (ltb-false 126 c.args.tei (subst (λ a. is_bad a c.args.tei ≡ false) c.in-Remove.is c.requires)) c.remove.ensures.after c.remove.ensures.told

pub returns-in-Check-clause-answers : goal.returns-in-Check-clause-answers
returns-in-Check-clause-answers c =
    network_asked (asked_aim c.args.asked c.args.tei) (teis.check c.args.tei) c.args.self.now c.in-Network.own c.check.new.self c.check.result
    c.in-Network.is (ap (λ a. asked_aim a c.args.tei) c.in-Check.is) (ltb-false 126 c.args.tei (subst (λ a. is_bad a c.args.tei ≡ false) c.in-Check.is c.requires)) c.check.ensures.after c.check.ensures.told

pub returns-in-Disown-clause-answers : goal.returns-in-Disown-clause-answers
returns-in-Disown-clause-answers c =
    network_asked (asked_aim c.args.asked c.args.tei) (teis.disown c.args.tei) c.args.self.now c.in-Network.own c.disown.new.self c.disown.result
    c.in-Network.is (ap (λ a. asked_aim a c.args.tei) c.in-Disown.is) (ltb-false 127 c.args.tei (subst (λ a. is_bad a c.args.tei ≡ false) c.in-Disown.is c.requires)) c.disown.ensures.after c.disown.ensures.told

pub returns-in-Assign-asked-clause-answers : goal.returns-in-Assign-asked-clause-answers
returns-in-Assign-asked-clause-answers c =
    terminal_asked (asked_aim c.args.asked c.args.tei) (teis.assign c.args.tei) (terminals.assign c.args.tei) c.args.self.now c.in-Terminal.own c.assign-in-Assign-asked.new.self c.assign-in-Assign-asked.result
    c.in-Terminal.is (ap (λ a. asked_aim a c.args.tei) c.in-Assign-asked.is) refl (ltb-false 126 c.args.tei (subst (λ a. is_bad a c.args.tei ≡ false) c.in-Assign-asked.is c.requires)) (ltb-false 126 c.args.tei (subst (λ a. is_bad a c.args.tei ≡ false) c.in-Assign-asked.is c.requires))
    c.assign-in-Assign-asked.ensures.after c.assign-in-Assign-asked.ensures.told

pub returns-in-Assign-asked-clause-short : goal.returns-in-Assign-asked-clause-short
returns-in-Assign-asked-clause-short c =
    IfOk-weaker c.assign-in-Assign-asked.result _ _ (λ outcome told. terminal_short (terminals.assign c.args.tei) c.in-Terminal.own outcome told) c.assign-in-Assign-asked.ensures.told

pub returns-in-Remove-asked-clause-answers : goal.returns-in-Remove-asked-clause-answers
returns-in-Remove-asked-clause-answers c =
    terminal_asked (asked_aim c.args.asked c.args.tei) (teis.remove c.args.tei) (terminals.remove c.args.tei) c.args.self.now c.in-Terminal.own c.remove-in-Remove-asked.new.self c.remove-in-Remove-asked.result
    c.in-Terminal.is (ap (λ a. asked_aim a c.args.tei) c.in-Remove-asked.is) refl (ltb-false 126 c.args.tei (subst (λ a. is_bad a c.args.tei ≡ false) c.in-Remove-asked.is c.requires)) tt
    c.remove-in-Remove-asked.ensures.after c.remove-in-Remove-asked.ensures.told

pub returns-in-Remove-asked-clause-short : goal.returns-in-Remove-asked-clause-short
returns-in-Remove-asked-clause-short c =
    IfOk-weaker c.remove-in-Remove-asked.result _ _ (λ outcome told. terminal_short (terminals.remove c.args.tei) c.in-Terminal.own outcome told) c.remove-in-Remove-asked.ensures.told

pub returns-in-Ask-asked-clause-answers : goal.returns-in-Ask-asked-clause-answers
returns-in-Ask-asked-clause-answers c =
    own_asked (asked_aim c.args.asked c.args.tei) terminals.ask c.args.self.now c.in-Terminal.own c.ask.new.self c.ask.result
    c.in-Terminal.is (ap (λ a. asked_aim a c.args.tei) c.in-Ask-asked.is) (λ config m is. is) tt c.ask.ensures.after c.ask.ensures.told

pub returns-in-Ask-asked-clause-short : goal.returns-in-Ask-asked-clause-short
returns-in-Ask-asked-clause-short c =
    IfOk-weaker c.ask.result _ _ (λ outcome told. terminal_short terminals.ask c.in-Terminal.own outcome told) c.ask.ensures.told

pub returns-in-Verify-clause-answers : goal.returns-in-Verify-clause-answers
returns-in-Verify-clause-answers c =
    own_asked (asked_aim c.args.asked c.args.tei) (terminals.verify c.args.tei) c.args.self.now c.in-Terminal.own c.verify.new.self c.verify.result
    c.in-Terminal.is (ap (λ a. asked_aim a c.args.tei) c.in-Verify.is) (λ config m is. is) tt c.verify.ensures.after c.verify.ensures.told

pub returns-in-Verify-clause-short : goal.returns-in-Verify-clause-short
returns-in-Verify-clause-short c =
    IfOk-weaker c.verify.result _ _ (λ outcome told. terminal_short (terminals.verify c.args.tei) c.in-Terminal.own outcome told) c.verify.ensures.told
