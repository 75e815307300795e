-- What a report shows.
use Rattle.std.specs.Prelude.{◌≡◌, ℕ, ◌==◌, ◌&&◌, Bool, List, [], ◌∷◌, length, take, map, Option, Some, None, if◌then◌else◌}
use Rattle.std.specs.Option.{unwrap_or}
use Rattle.lapd_frame.specs.declared.timers.Order.{Order}
use Rattle.model_line.specs.Event.{LineTold}
use Rattle.lapd_c.specs.declared.plain.notes.PlainNote.{PlainNote}
use Rattle.lapd_c.specs.declared.plain.reports.PlainReport.{PlainReport}
use Rattle.lapd_c.specs.declared.plain.timers.PlainOrder.{PlainOrder}
use Rattle.lapd_c.specs.Notes.{plain_note, cause_number}
use Rattle.lapd_c.specs.Timers.{plain_order}

-- The notes, the orders and the contents that a report holds.
abbrev pub notes_in : PlainReport → List PlainNote
notes_in r = take r.note_count r.notes

abbrev pub orders_of : PlainReport → List PlainOrder
orders_of r = take r.order_count r.orders

abbrev pub contents_in : PlainReport → Option (List ℕ)
contents_in r = if r.delivered == 0 then None else Some (take r.length r.contents)

-- Contents, or none where nothing is delivered.
abbrev pub contents_or_none : Option (List ℕ) → List ℕ
contents_or_none None = []
contents_or_none (Some contents) = contents

-- 1 where there are contents, also of no octets; else 0.
abbrev pub mark_of : Option (List ℕ) → ℕ
mark_of None = 0
mark_of (Some contents) = 1

-- The TEI of the links that give up what a report counts: that which the call names, if it names one; else that of the first note.
-- 255 if nothing is given up (profile).
abbrev pub first_tei : List PlainNote → ℕ
first_tei [] = 255
first_tei (note ∷ notes) = note.tei

abbrev pub given_up_tei : Option ℕ → PlainReport → ℕ
given_up_tei named r = if (r.given_up == 0) && (r.given_up_16 == 0) then 255 else unwrap_or named (first_tei (notes_in r))

-- It shows what an octet, an expiry or a request was answered with: all of it, and nothing else.
pub record Shows (r : PlainReport) (t : LineTold) : Type 0 where
  pub note_count : r.note_count ≡ length t.notes
  pub order_count : r.order_count ≡ length t.orders
  pub delivered : r.delivered ≡ mark_of t.contents
  pub octet_count : r.length ≡ length (contents_or_none t.contents)
  pub notes : notes_in r ≡ map plain_note t.notes
  pub orders : orders_of r ≡ map plain_order t.orders
  pub contents : contents_in r ≡ t.contents
  pub cause : r.cause ≡ cause_number t.cause
  pub lost : r.lost ≡ t.lost
  pub given_up : r.given_up ≡ t.given_up
  pub given_up_16 : r.given_up_16 ≡ t.given_up_16
  pub begun : r.begun ≡ 0
  pub more : r.more ≡ 0

-- It shows what a pull was answered with, beside the octet; or a call for the next frame, and whether another waits behind it.
pub record ShowsPull (r : PlainReport) (is_begun has_more : Bool) (given : List Order) : Type 0 where
  pub note_count : r.note_count ≡ 0
  pub order_count : r.order_count ≡ length given
  pub delivered : r.delivered ≡ 0
  pub octet_count : r.length ≡ 0
  pub orders : orders_of r ≡ map plain_order given
  pub contents : contents_in r ≡ None
  pub cause : r.cause ≡ 0
  pub lost : r.lost ≡ 0
  pub given_up : r.given_up ≡ 0
  pub given_up_16 : r.given_up_16 ≡ 0
  pub begun : r.begun ≡ (if is_begun then 1 else 0)
  pub more : r.more ≡ (if has_more then 1 else 0)

-- Nothing but the contents, and what is said of them, is another.
pub record SameButContents (r r' : PlainReport) : Type 0 where
  pub note_count : r'.note_count ≡ r.note_count
  pub order_count : r'.order_count ≡ r.order_count
  pub cause : r'.cause ≡ r.cause
  pub lost : r'.lost ≡ r.lost
  pub given_up : r'.given_up ≡ r.given_up
  pub given_up_16 : r'.given_up_16 ≡ r.given_up_16
  pub begun : r'.begun ≡ r.begun
  pub more : r'.more ≡ r.more
  pub notes : r'.notes ≡ r.notes
  pub orders : r'.orders ≡ r.orders
