-- Hand-written answers for `LinkLayer::manage`.
use Rattle.lapd_line.proofs.Vocabulary.{◌≡◌, true, false, [], asked_aim}
use Rattle.lapd_line.specs.Requests.{is_bad, may_ask}
use Rattle.lapd_line.proofs.LayerRequests.{by_management}
use Rattle.lapd_line.proofs.link_layer.LinkLayer.manage.Goals as goal

pub change-requires-clause-changing : goal.change-requires-clause-changing
change-requires-clause-changing g c = (asked_aim c.args.asked c.args.tei, c.args.self.now.teis, c.in-Ok.ensures.answers c.args.self.now.config, c.requires.stands)

pub returns-in-Ok-clause-granted : goal.returns-in-Ok-clause-granted
returns-in-Ok-clause-granted g c = λ others m st.
    let may : may_ask c.args.self.now.config c.args.asked ≡ true = cc in
    let bad : is_bad c.args.asked c.args.tei ≡ false = cc in
    by_management c.args.self.now (g.S.Shelf.store c.args.shelf.now) others m st c.args.asked c.args.tei may bad c.in-Ok.ensures.accepted

pub returns-in-Err-clause-refused : goal.returns-in-Err-clause-refused
returns-in-Err-clause-refused g c = λ others m st.
    let may : may_ask c.args.self.now.config c.args.asked ≡ true = cc in
    let bad : is_bad c.args.asked c.args.tei ≡ false = cc in
    by_management c.args.self.now (g.S.Shelf.store c.args.shelf.now) others m st c.args.asked c.args.tei may bad c.in-Err.ensures.refused

pub returns-in-Ok-clause-served : goal.returns-in-Ok-clause-served
returns-in-Ok-clause-served g c =
    c.change.ensures (asked_aim c.args.asked c.args.tei) c.args.self.now.teis [] (c.in-Ok.ensures.answers c.args.self.now.config)
