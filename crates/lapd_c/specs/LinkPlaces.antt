-- The links of a line in order: by TEI, and call control's before packet's.
use Rattle.std.specs.Prelude.{◌≡◌, ℕ, refl, ◌+◌, ◌*◌, ◌/◌, ◌%◌, ◌==◌, if◌then◌else◌}
use Rattle.lapd_frame.specs.declared.services.Service.{Service}
use Rattle.lapd_frame.specs.declared.services.Service.TheVariants.{Call, Packet}
use Rattle.lapd_frame.specs.Services.{sapi_of}
use Rattle.lapd_c.specs.declared.plain.links.PlainLink.{PlainLink}
use Rattle.lapd_c.specs.Reserved.{unused}

-- Place 2·TEI is that of a TEI's call control link, 2·TEI + 1 that of its packet link.
abbrev pub service_at : ℕ → Service
service_at place = if place % 2 == 0 then Call else Packet

abbrev pub tei_at : ℕ → ℕ
tei_at place = place / 2

abbrev pub place_of : ℕ → ℕ → ℕ
place_of sapi tei = if sapi == 0 then 2 * tei else 2 * tei + 1

abbrev pub plain_link : ℕ → ℕ → PlainLink
plain_link place state = record { service = sapi_of (service_at place); tei = tei_at place; state = state; reserved = unused 5 }

worked_packet_link : plain_link 129 7 ≡ record { service = 16; tei = 64; state = 7; reserved = unused 5 }
worked_packet_link = refl

worked_place : place_of 16 64 ≡ 129
worked_place = refl
