-- Worked values: the counters in order, and what is told of them.
use Rattle.std.specs.Prelude.{◌≡◌, [], ◌∷◌, ◌++◌, map, codes, refl}
use Rattle.std.specs.Fmt.{digits}
use Rattle.std.specs.List.{range_with_len}
use Rattle.model_bits.specs.declared.heard.Cause.TheVariants.{Fcs}
use Rattle.lapd_frame.specs.declared.notes.ErrorCode.TheVariants.{F}
use Rattle.lapd_count.specs.declared.counter.Counter.TheVariants.{Frames, Octets, Dropped, Errors, Lost, Messages}
use Rattle.lapd_count.specs.declared.counter.Way.TheVariants.{Heard, Begun}
use Rattle.lapd_count.specs.declared.kinds.Kind.TheVariants.{Sabme}
use Rattle.lapd_count.specs.declared.messages.MessageType.TheVariants.{IdentityDenied}
use Rattle.lapd_count.specs.Counters.{place, none_counted, with_all}
use Rattle.lapd_transcript.specs.declared.counters.CounterGroup.TheVariants as group
use Rattle.lapd_transcript.specs.Counted.{line_counters, message_counters, group_name, own_name, counters_text}

in_order : map place (line_counters ++ message_counters) ≡ range_with_len 0 79
in_order = refl

named : group_name (Frames Heard Sabme) ++ own_name (Frames Heard Sabme) ≡ codes "heard-sabme"
named = refl

an_error : group_name (Errors F) ++ own_name (Errors F) ≡ codes "errors-f"
an_error = refl

nothing : counters_text 3 group.Line none_counted ≡ codes "3 nothing\n"
unfolding digits
nothing = refl

some : counters_text 0 group.Line (with_all none_counted ((Messages Begun IdentityDenied, 1) ∷ (Lost, 12) ∷ (Frames Heard Sabme, 1) ∷ (Octets Heard, 3) ∷ (Dropped Fcs, 2) ∷ []))
    ≡ codes "0 counter heard-sabme 1\n0 counter heard-octets 3\n0 counter dropped-fcs 2\n0 counter lost 12\n"
unfolding digits
some = refl

-- A denial is shown among the messages, and not among the others.
denied : counters_text 0 group.Messages (with_all none_counted ((Lost, 12) ∷ (Messages Begun IdentityDenied, 3) ∷ [])) ≡ codes "0 counter begun-denied 3\n"
unfolding digits
denied = refl

denied_alone : counters_text 0 group.Line (with_all none_counted ((Messages Begun IdentityDenied, 3) ∷ [])) ≡ codes "0 nothing\n"
unfolding digits
denied_alone = refl
