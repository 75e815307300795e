-- What a link stands for, and what it answers.
--
-- Read after those of `model_link`: Outcome and Events, the program's values as those of the machine, and Stands; of
-- `lapd_link_steps`, the record `Rests` of Done, and `Past` and `link_of` of Past.
pub mod Events
pub mod Outcome
pub mod Stands
pub mod Image
-- the words of the contracts, from where they are defined
pub use Rattle.lapd_frame.specs.Grammar.{IsFrame}
pub use Rattle.lapd_frame.specs.ShortLists.{listed}
pub use Rattle.lapd_link_steps.specs.Does.{Agrees, Does, HasRoom}
pub use Rattle.lapd_link_steps.specs.Reports.{IsClear}
pub use Rattle.lapd_store.specs.Ownership.{Holds, Keeps, Owned}
pub use Rattle.lapd_store.specs.Store.{IsUsed, SameLimits, Store, used_slots}
pub use Rattle.model_link.specs.Link.{address_at, frame_of}
pub use Rattle.model_link.specs.Machine.{after, given, received_step, told}
pub use Rattle.model_link.specs.Rises.{RisesByEvent, held, may_send, sent}
pub use Rattle.model_link.specs.Room.{room_of}
pub use Rattle.model_link.specs.Steps.{Course, begun}
pub use Rattle.model_link.specs.Told.{orders_for, starts, timer_at}
pub use Rattle.model_link.specs.declared.states.State.TheVariants.{TeiAssigned}
pub use Rattle.lapd_link.specs.Events.{info_of, received_of, request_of}
pub use Rattle.lapd_link.specs.Outcome.{HasMessage, given_by, told_of, told_with}
pub use Rattle.lapd_link.specs.Stands.{HasPlace, Reaches, Stays, terms_of}
