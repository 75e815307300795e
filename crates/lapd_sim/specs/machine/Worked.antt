-- Whole scripts and their transcripts: each computes.
use Rattle.std.specs.Prelude.{◌≡◌, codes, Some, refl}
use Rattle.lapd_script.specs.declared.kind.FaultKind.TheVariants.{NoCard, BadLine, SecondCard, BadCard, WrongCard}
use Rattle.lapd_sim.specs.machine.Script.{transcript, first_fault}
use Rattle.model_line.specs.Config.{sapi_fault}

empty : transcript (codes "") ≡ codes ""
empty = refl

skipped : transcript (codes "# nothing\n\n") ≡ codes ""
skipped = refl

no_card : first_fault (codes "\nassign 0 64\n") ≡ Some (record { line = 2; kind = NoCard })
no_card = refl

bad_card : first_fault (codes "card 1 9 7 8 4 4 64 260 3\n") ≡ Some (record { line = 1; kind = BadCard })
bad_card = refl

second_card : first_fault (codes "card 1 8 7 8 4 4 64 260 3\n# here\ncard 1 8 7 8 4 4 64 260 3\n") ≡ Some (record { line = 3; kind = SecondCard })
unfolding sapi_fault
second_card = refl

bad_line : first_fault (codes "card 1 8 7 8 4 4 64 260 3\nassign 1 64") ≡ Some (record { line = 2; kind = BadLine })
unfolding sapi_fault
bad_line = refl

octets_for_frames : first_fault (codes "frames 1 8 7 8 4 4 64 260 3\npull 9 1\n") ≡ Some (record { line = 2; kind = WrongCard })
unfolding sapi_fault
octets_for_frames = refl

frames_for_octets : first_fault (codes "card 1 8 7 8 4 4 64 260 3\nnext 0\n") ≡ Some (record { line = 2; kind = WrongCard })
unfolding sapi_fault
frames_for_octets = refl
