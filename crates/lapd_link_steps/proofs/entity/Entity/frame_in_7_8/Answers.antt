-- Hand-written answers for `Entity::frame_in_7_8`.
use Rattle.lapd_link_steps.proofs.Vocabulary.{ap, ◌∙◌, true, false, length, arith, lt-ltb, le-ltb, Dm, Ua, ◌then◌, by_number, particulars, effect_of}
use Rattle.lapd_link_steps.specs.declared.states.multiple_frame.Bearer.TheVariants.{Information}
use Rattle.lapd_frame.specs.declared.notes.ErrorCode.TheVariants as code
use Rattle.model_link.specs.Counts.{with_reject_received}
use Rattle.model_link.specs.MultipleFrame as row
use Rattle.lapd_link_steps.proofs.Steps.{◌▹◌, counted, bit_yes, bit_no, peer_busy_set, with_known}
use Rattle.lapd_link_steps.proofs.entity.Entity.frame_in_7_8.Goals as goal

pub returns-then-from-octets-clause-does : goal.returns-then-from-octets-clause-does
returns-then-from-octets-clause-does c = λ info len.
    with_known (row.frame_in_7_8 (particulars c.args.recovering c.args.terms.now) c.args.terms.now c.args.command info) c.args.control _ c.in-Information.is
    (bit_yes _ (row.contents_in_7_8 c.args.terms.now c.in-Information.ns c.in-Information.pf info then by_number c.args.terms.now c.in-Information.nr (effect_of (particulars c.args.recovering c.args.terms.now) Information false))
    (lt-ltb c.args.terms.now.n201 (length info) (omega (arith, len, c.from.ensures, c.if-from-octets.true)))
    (c.failed.ensures.does info))

pub returns-else-from-octets-clause-does : goal.returns-else-from-octets-clause-does
returns-else-from-octets-clause-does c = λ info len.
    with_known (row.frame_in_7_8 (particulars c.args.recovering c.args.terms.now) c.args.terms.now c.args.command info) c.args.control _ c.in-Information.is
    (bit_no _ (row.failed c.args.terms.now code.O)
    (le-ltb c.args.terms.now.n201 (length info) (omega (arith, len, c.from.ensures, c.if-from-octets.false)))
    (c.contents_in_7_8.ensures.does info ▹ c.number.ensures.does info))

pub returns-in-ReceiveReady-clause-does : goal.returns-in-ReceiveReady-clause-does
returns-in-ReceiveReady-clause-does c = λ info len.
    with_known (row.frame_in_7_8 (particulars c.args.recovering c.args.terms.now) c.args.terms.now c.args.command info) c.args.control _ c.in-ReceiveReady.is (peer_busy_set ▹ c.supervisory.ensures.does info)

pub returns-in-ReceiveNotReady-clause-does : goal.returns-in-ReceiveNotReady-clause-does
returns-in-ReceiveNotReady-clause-does c = λ info len.
    with_known (row.frame_in_7_8 (particulars c.args.recovering c.args.terms.now) c.args.terms.now c.args.command info) c.args.control _ c.in-ReceiveNotReady.is (peer_busy_set ▹ c.supervisory-in-ReceiveNotReady.ensures.does info)

pub returns-in-Reject-clause-does : goal.returns-in-Reject-clause-does
returns-in-Reject-clause-does c = λ info len.
    with_known (row.frame_in_7_8 (particulars c.args.recovering c.args.terms.now) c.args.terms.now c.args.command info) c.args.control _ c.in-Reject.is (counted with_reject_received c.reject_received.ensures ▹ peer_busy_set ▹ c.supervisory-in-Reject.ensures.does info)

pub returns-in-Sabme-clause-does : goal.returns-in-Sabme-clause-does
returns-in-Sabme-clause-does c = λ info len. with_known (row.frame_in_7_8 (particulars c.args.recovering c.args.terms.now) c.args.terms.now c.args.command info) c.args.control _ c.in-Sabme.is (c.sabme_in_7_8.ensures.does info)

pub returns-in-Disc-clause-does : goal.returns-in-Disc-clause-does
returns-in-Disc-clause-does c = λ info len. with_known (row.frame_in_7_8 (particulars c.args.recovering c.args.terms.now) c.args.terms.now c.args.command info) c.args.control _ c.in-Disc.is (c.disc_in_7_8.ensures.does info)

pub returns-in-Frmr-clause-does : goal.returns-in-Frmr-clause-does
returns-in-Frmr-clause-does c = λ info len. with_known (row.frame_in_7_8 (particulars c.args.recovering c.args.terms.now) c.args.terms.now c.args.command info) c.args.control _ c.in-Frmr.is (c.failed-in-Frmr.ensures.does info)

pub returns-in-Dm-false-clause-does : goal.returns-in-Dm-false-clause-does
returns-in-Dm-false-clause-does c = λ info len. with_known (row.frame_in_7_8 (particulars c.args.recovering c.args.terms.now) c.args.terms.now c.args.command info) c.args.control (Dm false) (c.in-Dm-false.is ∙ ap Dm c.in-Dm-false.pf-test) (c.failed-in-Dm-false.ensures.does info)

pub returns-in-Ua-true-clause-does : goal.returns-in-Ua-true-clause-does
returns-in-Ua-true-clause-does c = λ info len. with_known (row.frame_in_7_8 (particulars c.args.recovering c.args.terms.now) c.args.terms.now c.args.command info) c.args.control (Ua true) (c.in-Ua-true.is ∙ ap Ua c.in-Ua-true.pf-test) (c.error.ensures.does _ info _)

pub returns-in-Ua-false-clause-does : goal.returns-in-Ua-false-clause-does
returns-in-Ua-false-clause-does c = λ info len. with_known (row.frame_in_7_8 (particulars c.args.recovering c.args.terms.now) c.args.terms.now c.args.command info) c.args.control (Ua false) (c.in-Ua-false.is ∙ ap Ua c.in-Ua-false.pf-test) (c.error-in-Ua-false.ensures.does _ info _)

pub returns-in-Ui-clause-does : goal.returns-in-Ui-clause-does
returns-in-Ui-clause-does c = λ info len. with_known (row.frame_in_7_8 (particulars c.args.recovering c.args.terms.now) c.args.terms.now c.args.command info) c.args.control _ c.in-Ui.is (c.unit_in_7_8.ensures.does info len)
