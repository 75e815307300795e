-- What the values of the code stand for.
pub mod Outcome
pub mod terminal
-- the words of the contracts, from where they are defined
pub use Rattle.model_teis.specs.network.Events.{after, after_offer, assign, check, disown, down, expiry, message, offered, refusal, remove, told}
pub use Rattle.model_teis.specs.Table.{tei_at, Places, free_place, free_tei, is_in_use, is_on, named, place_of, teis_on, freed}
pub use Rattle.model_teis.specs.declared.network.check.Period.TheVariants.{First, Second, Settling}
pub use Rattle.model_teis.specs.network.Machine.{empty, held, is_due, nothing, place}
pub use Rattle.model_teis.specs.declared.network.messages.Message.TheVariants.{IdentityRemove}
pub use Rattle.model_teis.specs.network.Messages.{action_of, responses_in, type_of}
pub use Rattle.lapd_tei.specs.Outcome.{IsOpen, IsShort, led_to, told_of}
pub use Rattle.model_teis.specs.network.Rows.{answer_request, ask_once, count, counted, doubled, end_check_of, expire, expire_period, is_checked, is_unanswered, remembered_in, removed, request, request_anew, request_of, respond, responses, serve, take_off, verify, verify_beside}
pub use Rattle.model_teis.specs.network.Sound.{AreSoundChecks, MayBeDue}
pub use Rattle.model_teis.specs.Changes.{left}
pub use Rattle.model_teis.specs.Steps.{nothing_happens, ◌then◌}
pub use Rattle.model_teis.specs.network.Words.{begin_check, begun, check_is_due, check_next, due_at, end_check, is_of_other, latest, leave, read_as, send, settle, stop_check}
