-- Up to which octet a port gives frames of a kind, that are on its line, or wait to be put there.
use Rattle.laws_time.proofs.Vocabulary.{All, All-head, All-tail, AllByRecursion, AreOctets, Bool, Config, Control, ControlFrame, Course, Disc, GoOut, Information, IsCarried, IsCut, IsOnItsWay, IsSoundPort, Item, Link, LinkEvent, List, NextFrame, None, Ok, Option, Parts, Port, Sabme, Service, Some, State, StreamEvent as Event, T200, Terms, [], all_exact, answers, ap, append-nil, append_assoc}
use Rattle.laws_time.proofs.Vocabulary.{append_cancel_left, arith, as_heard, bit_of, bits, changed, commands, cond, cut_sent, false, flat_map, frame, frame_given, framed, frames_among, frames_among-append, frames_sent, gained, give_information, given_of, heard-beyond, heard_in, heard_whole, heard_with, idle, inl, inr, is_awaiting_acknowledgement, is_final, is_time, item_of, item_text, left_of}
use Rattle.laws_time.proofs.Vocabulary.{length, length-append, length-bits, line_text, line_text-push, map, map-append, may_send_information, moves, offer_among, option_to_list, own_side, put, reading, received, refl, same_from_push, same_text, send_acknowledgement, sent, some-in, spelling, stream_frame, subst, suc, sym, take, terms, true, true≢false, with_one_sent, zero, ℕ, ◌&&◌, ◌*◌, ◌++◌, ◌+◌}
use Rattle.laws_time.proofs.Vocabulary.{◌||◌, ◌∙◌, ◌∷◌, ◌≡◌, ◌≤◌, ◌⊎◌}
use Rattle.model_link.specs.Events as link
use Rattle.model_link.specs.Machine as links
use Rattle.laws_order.proofs.Vocabulary.{go_out, all_out}
use Rattle.model_link.specs.Events.{frame as frame_of_kind}
use Rattle.model_link.specs.Steps.{begun}
use Rattle.model_link.specs.Words.{pending_is, start}
use Rattle.model_link.specs.Link.{frame_of}

same-frame : (f g : List ℕ) → stream_frame f ≡ stream_frame g → f ≡ g
same-frame f g is = cc is

-- What is heard in a stream of frames is one of them.
pub one-framed : (P : List ℕ → Type 0) (fs : List (List ℕ)) (xs ys : List Event) (e : Event) → framed fs ≡ xs ++ e ∷ ys → All P fs → (o : List ℕ) × (e ≡ stream_frame o) × P o
one-framed P [] [] ys e is all = absurd (cc is)
one-framed P [] (x ∷ xs) ys e is all = absurd (cc is)
one-framed P (f ∷ fs) [] ys e is all = (f, sym (cc is), All-head P f fs all)
one-framed P (f ∷ fs) (x ∷ xs) ys e is all = one-framed P fs xs ys e (cc is) (All-tail P f fs all)

none-more : (xs : List Event) (e : Event) → xs ≡ xs ++ e ∷ [] → ⊥
none-more xs e is = let more = ap length is ∙ length-append xs (e ∷ []) in omega (arith, more)

abbrev pub IsIn : List ℕ → List (List ℕ) → Type 0
IsIn o [] = ⊥
IsIn o (x ∷ xs) = (x ≡ o) ⊎ IsIn o xs

abbrev pub text_length : List Item → ℕ
text_length items = length (line_text items)

module _ (n201 : ℕ) where
  -- A port as it stands: what it gave is a beginning of its text.
  pub record Fine (p : Port) : Type 0 where
    pub sound : IsSoundPort n201 p
    pub on : IsOnItsWay p
    pub octets : All AreOctets (frames_among p.items)

  module _ (p : Port) (h : Fine p) where
    pub out : GoOut n201 p.given (frames_among p.items)
    out =
        subst (GoOut n201 p.given) (frames_sent p.items ∙ all_exact (frames_among p.items) h.octets)
        (go_out n201 (map sent p.items) p.given (left_of p) (same_text p.items ∙ h.sound.text.text) (heard_whole n201 p.items h.on.long h.sound.sizes) (cut_sent p.items p.given h.on.cut))

    -- What is heard in what it gave is one of its frames.
    pub its-frame : (P : List ℕ → Type 0) → All P (frames_among p.items) → (before : List ℕ) (value : ℕ) (more : List ℕ) (e : Event) → p.given ≡ before ++ value ∷ more → gained n201 before value ≡ Some e
        → (o : List ℕ) × (e ≡ stream_frame o) × P o
    its-frame P all before value more e given is =
        let now = before ++ value ∷ [] in let heard = heard_in n201 before in let beyond = heard-beyond n201 now more in let on = framed out.on_its_way in
        one-framed P (frames_among p.items) heard (beyond.0 ++ on) e (out.heard ∙ ap (λ g. heard_in n201 g ++ on) (given ∙ sym (append_assoc before (value ∷ []) more))
        ∙ ap (λ l. l ++ on) (beyond.1 ∙ ap (λ l. l ++ beyond.0) (heard_with n201 before value ∙ ap (λ e. heard ++ option_to_list e) is))
        ∙ append_assoc (heard ++ e ∷ []) beyond.0 on ∙ append_assoc heard (e ∷ []) (beyond.0 ++ on)) all

    pub own-frame : (P : List ℕ → Type 0) → All P (frames_among p.items) → (before : List ℕ) (value : ℕ) (more octets : List ℕ) → p.given ≡ before ++ value ∷ more → gained n201 before value ≡ Some (stream_frame octets) → P octets
    own-frame P all before value more octets given is = let x = its-frame P all before value more (stream_frame octets) given is in subst P (sym (same-frame octets x.0 x.1)) x.2

    pub all-given : (front : List Item) → p.items ≡ front ++ idle ∷ [] → framed (frames_among p.items) ≡ heard_in n201 p.given
    all-given front is =
        subst (λ frames. framed frames ≡ heard_in n201 p.given) (frames_sent p.items ∙ all_exact (frames_among p.items) h.octets)
        (all_out n201 (map sent p.items) p.given (left_of p) (same_text p.items ∙ h.sound.text.text) (heard_whole n201 p.items h.on.long h.sound.sizes)
        (map sent front) (ap (map sent) is ∙ map-append sent front (idle ∷ [])) (cut_sent p.items p.given h.on.cut))

    -- The frame of which octets are still to be given is the last on the line.
    pub last-is : (f : List ℕ) → out.on_its_way ≡ f ∷ [] → IsCut p.items p.given → (front : List Item) × (p.items ≡ front ++ frame f ∷ [])
    last-is f one h = grind (arith, some-in, heard_in, framed, frames_among, out, all-given, none-more, frames_among-append, map-append, same_from_push, same-frame)

    -- what was given is no longer than the text
    pub given-short : 8 * length p.given ≤ text_length p.items
    given-short = let all = ap length h.sound.text.text ∙ length-append (bits p.given) (left_of p) in omega (arith, all, length-bits p.given)

  -- An octet more is given, before which an item may be put on the line.
  pub record Gave (p q : Port) (new : List Item) (value : ℕ) : Type 0 where
    pub few : length new ≤ 1
    pub items : q.items ≡ p.items ++ new
    pub given : q.given ≡ p.given ++ value ∷ []

  -- A frame that is heard with it is the last that was on the line, or the one that is put.
  abbrev pub Ends : Port → List Item → List ℕ → Type 0
  Ends p new o = ((front : List Item) × (p.items ≡ front ++ frame o ∷ [])) ⊎ (new ≡ frame o ∷ [])

  module _ (p q : Port) (new : List Item) (value : ℕ) (h : Fine p) (k : Fine q) (g : Gave p q new value) (o : List ℕ) (is : gained n201 p.given value ≡ Some (stream_frame o)) where
    abbrev on : List (List ℕ)
    on = (out p h).on_its_way

    abbrev later : List (List ℕ)
    later = (out q k).on_its_way

    all-now : framed (frames_among q.items) ≡ (heard_in n201 p.given) ++ (framed (out p h).on_its_way ++ framed (frames_among new))
    all-now = grind (arith, framed, frames_among, frames_among-append, map-append, append_assoc, heard_in)

    with-it : heard_in n201 q.given ≡ (heard_in n201 p.given) ++ stream_frame o ∷ []
    with-it = ap (heard_in n201) g.given ∙ heard_with n201 p.given value ∙ ap (λ e. (heard_in n201 p.given) ++ option_to_list e) is

    rest-is : framed (out p h).on_its_way ++ framed (frames_among new) ≡ stream_frame o ∷ framed (out q k).on_its_way
    rest-is = grind (arith, append_cancel_left, heard_in, framed, frames_among, all-now, with-it, append_assoc)

    put-now : (items : List Item) → length items ≤ 1 → framed (frames_among items) ≡ stream_frame o ∷ framed (out q k).on_its_way → items ≡ frame o ∷ []
    put-now [] few e = absurd (cc e)
    put-now (idle ∷ []) few e = absurd (cc e)
    put-now (frame f ∷ []) few e = ap (λ octets. frame octets ∷ []) (same-frame f o (cc e))
    put-now (a ∷ b ∷ items) few e = absurd (omega (arith, few))

    pub ends : Ends p new o
    ends = go (out p h).on_its_way refl (out p h).one rest-is
      where
        go : (fs : List (List ℕ)) → (out p h).on_its_way ≡ fs → length fs ≤ 1 → framed fs ++ framed (frames_among new) ≡ stream_frame o ∷ framed (out q k).on_its_way → Ends p new o
        go [] e few all = inr (put-now new g.few all)
        go (f ∷ []) e few all = let x = last-is p h f e h.on.cut in inl (x.0, x.1 ∙ ap (λ octets. x.0 ++ frame octets ∷ []) (same-frame f o (cc all)))
        go (f ∷ f2 ∷ fs) e few all = absurd (omega (arith, few))

  last-item : (xs ys : List Item) (a b : List ℕ) → xs ++ frame a ∷ [] ≡ ys ++ frame b ∷ [] → a ≡ b
  last-item xs ys a b is = cc (same_from_push xs ys (frame a) (frame b) is).1

  -- Frames of a kind are given by some octet, counted from 0: those of which octets were given, the last that is on the line, and those
  -- that wait, in this order, which take at most 72 bits each.
  module _ (kind : List ℕ → Bool) (most : ℕ) where
    unfoldable pub WaitIn : ℕ → List (List ℕ) → Type 0
    WaitIn length_before [] = Unit {0}
    WaitIn length_before (o ∷ ring) = (kind o ≡ true → length_before + 73 ≤ 8 * (most + 1)) × WaitIn (length_before + 72) ring

    pub record Sends (p : Port) (ring : List (List ℕ)) : Type 0 where
      pub done : (first : List ℕ) (value : ℕ) (more : List ℕ) (o : List ℕ) → p.given ≡ first ++ value ∷ more → gained n201 first value ≡ Some (stream_frame o) → kind o ≡ true → length first ≤ most
      pub last : (front : List Item) (o : List ℕ) → p.items ≡ front ++ frame o ∷ [] → kind o ≡ true → text_length p.items + 1 ≤ 8 * (most + 1)
      pub wait : WaitIn (text_length p.items) ring

    pub wait-less : (a b : ℕ) (ring : List (List ℕ)) → b ≤ a → WaitIn a ring → WaitIn b ring
    unfolding WaitIn
    wait-less a b [] less h = tt
    wait-less a b (o ∷ ring) less h = ((λ is. let bound = h.0 is in omega (arith, bound, less)), wait-less (a + 72) (b + 72) ring (omega (arith, less)) h.1)

    first-bound : (a : ℕ) (o : List ℕ) (rest : List (List ℕ)) → WaitIn a (o ∷ rest) → kind o ≡ true → a + 73 ≤ 8 * (most + 1)
    unfolding WaitIn
    first-bound a o rest w is = w.0 is

    rest-wait : (a : ℕ) (o : List ℕ) (rest : List (List ℕ)) → WaitIn a (o ∷ rest) → WaitIn (a + 72) rest
    unfolding WaitIn
    rest-wait a o rest w = w.1

    pub none-wait : (a : ℕ) → WaitIn a []
    unfolding WaitIn
    none-wait a = tt

    none-one : (o : List ℕ) → [] ≡ frame o ∷ [] → ⊥
    none-one o e = cc e

    same-item : (a b : List ℕ) → frame a ∷ [] ≡ frame b ∷ [] → a ≡ b
    same-item a b e = cc e

    -- those that are put at the end of those that wait
    pub wait-more : (a : ℕ) (ring puts : List (List ℕ)) → WaitIn a ring
        → ((o : List ℕ) → IsIn o puts → kind o ≡ true → a + 72 * (length ring + length puts) + 1 ≤ 8 * (most + 1)) → WaitIn a (ring ++ puts)
    unfolding WaitIn
    wait-more a [] [] h bound = tt
    wait-more a [] (o ∷ puts) h bound = ((λ is. let b = bound o (inl refl) is in omega (arith, b)), wait-more (a + 72) [] puts tt (λ x has is. let b = bound x (inr has) is in omega (arith, b)))
    wait-more a (o ∷ ring) puts h bound = (h.0, wait-more (a + 72) ring puts h.1 (λ x has is. let b = bound x has is in omega (arith, b)))

    -- What else happens leaves the line as it is.
    pub sends-with : (p q : Port) (ring now : List (List ℕ)) → q.items ≡ p.items → q.given ≡ p.given → WaitIn (text_length p.items) now → Sends p ring → Sends q now
    sends-with p q ring now items given wait h = grind arith

    -- What is put on the line with an octet: nothing, what has waited longest, or, if nothing waits, no frame of the kind.
    abbrev pub Takes : List Item → List (List ℕ) → List (List ℕ) → Type 0
    Takes new ring now =
        ((new ≡ []) × (now ≡ ring)) ⊎ (((o : List ℕ) × (new ≡ frame o ∷ []) × (ring ≡ o ∷ now) × (length (item_text (frame o)) ≤ 72))
        ⊎ ((now ≡ []) × ((o : List ℕ) → new ≡ frame o ∷ [] → kind o ≡ false)))

    abbrev Same : List ℕ → ℕ → List ℕ → ℕ → List ℕ → Type 0
    Same xs v first w more = ((first ≡ xs) × (w ≡ v)) ⊎ ((rest : List ℕ) × (xs ≡ first ++ w ∷ rest))

    split : (xs : List ℕ) (v : ℕ) (first : List ℕ) (w : ℕ) (more : List ℕ) → xs ++ v ∷ [] ≡ first ++ w ∷ more → Same xs v first w more
    split [] v [] w more e = inl (refl, sym (cc e))
    split [] v (f ∷ first) w more e = absurd (some-in first w more (cc e))
    split (x ∷ xs) v [] w more e = inr (xs, ap (λ y. y ∷ xs) (cc e))
    split (x ∷ xs) v (f ∷ first) w more e = go (split xs v first w more (cc e)) (cc e)
      where
        go : Same xs v first w more → x ≡ f → Same (x ∷ xs) v (f ∷ first) w more
        go (inl s) same = inl ((λ i. sym same i ∷ s.0 i), s.1)
        go (inr s) same = inr (s.0, (λ i. same i ∷ s.1 i))

    module _ (p q : Port) (new : List Item) (value : ℕ) (ring now : List (List ℕ)) (h : Fine p) (k : Fine q) (g : Gave p q new value) (t : Takes new ring now) (s : Sends p ring) where
      text-more : text_length q.items ≡ text_length p.items + length (flat_map item_text new)
      text-more = go new g.few g.items
        where
          go : (new : List Item) → length new ≤ 1 → q.items ≡ p.items ++ new → text_length q.items ≡ text_length p.items + length (flat_map item_text new)
          go [] few is = let same = ap text_length (is ∙ append-nil p.items) in omega (arith, same)
          go (i ∷ []) few is =
              let all = ap text_length is ∙ ap length (line_text-push p.items i) ∙ length-append (line_text p.items) (item_text i) in
              let one = ap length (append-nil (item_text i)) in omega (arith, all, one)
          go (i ∷ j ∷ more) few is = absurd (omega (arith, few))

      -- the octet that is given
      now-done : (o : List ℕ) → gained n201 p.given value ≡ Some (stream_frame o) → kind o ≡ true → length p.given ≤ most
      now-done o is kind_is = go (ends p q new value h k g o is)
        where
          short : 8 * length p.given ≤ text_length p.items
          short = given-short p h

          taken : new ≡ frame o ∷ [] → Takes new ring now → length p.given ≤ most
          taken put (inl x) = absurd (none-one o (sym x.0 ∙ put))
          taken put (inr (inl x)) =
              let same : o ≡ x.0 = same-item o x.0 (sym put ∙ x.1) in
              let bound = first-bound (text_length p.items) x.0 now (subst (WaitIn (text_length p.items)) x.2 s.wait) (ap kind (sym same) ∙ kind_is) in omega (arith, short, bound)
          taken put (inr (inr x)) = absurd (true≢false (sym kind_is ∙ x.1 o put))

          go : Ends p new o → length p.given ≤ most
          go (inl x) = let bound = s.last x.0 o x.1 kind_is in omega (arith, short, bound)
          go (inr put) = taken put t

      pub sends-on : Sends q now
      sends-on = record { done = λ first w more o is gains kind_is. by-split first w more o (split p.given value first w more (sym g.given ∙ is)) gains kind_is; last = last-now; wait = wait-now t }
        where
          by-split : (first : List ℕ) (w : ℕ) (more : List ℕ) (o : List ℕ) → Same p.given value first w more → gained n201 first w ≡ Some (stream_frame o) → kind o ≡ true → length first ≤ most
          by-split first w more o (inl x) gains kind_is =
              subst (λ xs. length xs ≤ most) (sym x.0) (now-done o (ap (λ v. gained n201 p.given v) (sym x.1) ∙ ap (λ xs. gained n201 xs w) (sym x.0) ∙ gains) kind_is)
          by-split first w more o (inr x) gains kind_is = s.done first w x.0 o x.1 gains kind_is

          wait-now : Takes new ring now → WaitIn (text_length q.items) now
          wait-now (inl x) =
              let more = text-more in
              wait-less (text_length p.items) (text_length q.items) now (let none = ap (λ is. length (flat_map item_text is)) x.0 in omega (arith, more, none))
              (subst (WaitIn (text_length p.items)) (sym x.1) s.wait)
          wait-now (inr (inl x)) =
              let more = text-more in let bound = x.3 in let all = ap (λ is. length (flat_map item_text is)) x.1 in let one = ap length (append-nil (item_text (frame x.0))) in
              wait-less (text_length p.items + 72) (text_length q.items) now (omega (arith, more, all, one, bound))
              (rest-wait (text_length p.items) x.0 now (subst (WaitIn (text_length p.items)) x.2 s.wait))
          wait-now (inr (inr x)) = subst (WaitIn (text_length q.items)) (sym x.0) (none-wait (text_length q.items))

          last-now : (front : List Item) (o : List ℕ) → q.items ≡ front ++ frame o ∷ [] → kind o ≡ true → text_length q.items + 1 ≤ 8 * (most + 1)
          last-now front o is kind_is = by-new t
            where
              by-new : Takes new ring now → text_length q.items + 1 ≤ 8 * (most + 1)
              by-new (inl x) =
                  let same : q.items ≡ p.items = g.items ∙ ap (λ more. p.items ++ more) x.0 ∙ append-nil p.items in
                  subst (λ items. text_length items + 1 ≤ 8 * (most + 1)) (sym same) (s.last front o (sym same ∙ is) kind_is)
              by-new (inr (inl x)) =
                  let own : x.0 ≡ o = last-item p.items front x.0 o (ap (λ more. p.items ++ more) (sym x.1) ∙ sym g.items ∙ is) in
                  let more = text-more in let bound = x.3 in let all = ap (λ is. length (flat_map item_text is)) x.1 in let one = ap length (append-nil (item_text (frame x.0))) in
                  let first = first-bound (text_length p.items) x.0 now (subst (WaitIn (text_length p.items)) x.2 s.wait) (ap kind own ∙ kind_is) in omega (arith, more, all, one, bound, first)
              by-new (inr (inr x)) = by-item new g.few g.items x.1
                where
                  by-item : (new : List Item) → length new ≤ 1 → q.items ≡ p.items ++ new → ((o : List ℕ) → new ≡ frame o ∷ [] → kind o ≡ false) → text_length q.items + 1 ≤ 8 * (most + 1)
                  by-item [] few items none =
                      let same : q.items ≡ p.items = items ∙ append-nil p.items in subst (λ items. text_length items + 1 ≤ 8 * (most + 1)) (sym same) (s.last front o (sym same ∙ is) kind_is)
                  by-item (i ∷ []) few items none = absurd (true≢false (sym kind_is ∙ none o (ap (λ i. i ∷ []) (same_from_push p.items front i (frame o) (sym items ∙ is)).1)))
                  by-item (i ∷ j ∷ more) few items none = absurd (omega (arith, few))

  -- What is given by some octet is given by each later one.
  module _ (kind : List ℕ → Bool) (most later : ℕ) (less : most ≤ later) where
    wait-later : (a : ℕ) (ring : List (List ℕ)) → WaitIn kind most a ring → WaitIn kind later a ring
    unfolding WaitIn
    wait-later a [] h = tt
    wait-later a (o ∷ ring) h = ((λ is. let bound = h.0 is in omega (arith, bound, less)), wait-later (a + 72) ring h.1)

    pub sends-later : (p : Port) (ring : List (List ℕ)) → Sends kind most p ring → Sends kind later p ring
    sends-later p ring h = grind (arith, wait-later)

-- ---- which control frames of a kind an event puts, and what a call for the next frame gives of those that wait

-- A frame that asks for an answer: a command with P=1.
abbrev pub is_command : Control → Bool
is_command (Information ns nr p) = true
is_command (Sabme p) = true
is_command (Disc p) = true
is_command other = false

abbrev pub asks : Bool → Control → Bool
asks command control = bit_of control && (command || is_command control)

abbrev pub is_asked : LinkEvent → Bool
is_asked (received (frame_of_kind f)) = asks f.address.command f.control
is_asked other = false

-- No answer asks, and no command answers; what does not ask gets no answer with F=1.
abbrev AsksNot : ControlFrame → Type 0
AsksNot f = asks f.command f.control ≡ false

abbrev EndsNot : ControlFrame → Type 0
EndsNot f = is_final f.command f.control ≡ false

answers-ask-not : (e : LinkEvent) (l : Link) → AllByRecursion AsksNot (answers e l)
answers-ask-not e l = grind arith

answers-end-not : (e : LinkEvent) (l : Link) → is_asked e ≡ false → AllByRecursion EndsNot (answers e l)
answers-end-not e l none = grind arith

commands-end-not : (e : LinkEvent) (l : Link) (to : State) → AllByRecursion EndsNot (commands e l to)
commands-end-not e l to = grind arith

both : (P : ControlFrame → Type 0) (xs ys : List ControlFrame) → AllByRecursion P xs → AllByRecursion P ys → AllByRecursion P (xs ++ ys)
both P [] ys h g = g
both P (x ∷ xs) ys h g = (h.0, both P xs ys h.1 g)

pub first-of : (P : ControlFrame → Type 0) (n : ℕ) (xs : List ControlFrame) → AllByRecursion P xs → AllByRecursion P (take n xs)
first-of P zero xs h = tt
first-of P (suc n) [] h = tt
first-of P (suc n) (x ∷ xs) h = (h.0, first-of P n xs h.1)

pub put-asks-not : (e : LinkEvent) (l : Link) (to : State) → (moves l.state to || is_time e l) ≡ false → AllByRecursion AsksNot (put e l to)
put-asks-not e l to none = both AsksNot (answers e l) (commands e l to) (answers-ask-not e l) (subst (AllByRecursion AsksNot) (sym ((ap (λ b. cond b (Rattle.laws_link.specs.Waiting.command_in to l) []) none))) tt)

pub put-ends-not : (e : LinkEvent) (l : Link) (to : State) → is_asked e ≡ false → AllByRecursion EndsNot (put e l to)
put-ends-not e l to none = both EndsNot (answers e l) (commands e l to) (answers-end-not e l none) (commands-end-not e l to)

-- An overlong frame asks for nothing; else it is heard as it is.
pub heard-asks : (t : Terms) (e : LinkEvent) → is_asked e ≡ false → is_asked (as_heard t e) ≡ false
heard-asks t e none = grind arith

pub heard-time : (t : Terms) (e : LinkEvent) (l : Link) → is_time (as_heard t e) l ≡ is_time e l
heard-time t e l = grind arith

-- ---- what a call for the next frame takes of the control frames that wait

module _ (c : Config) (service : Service) (tei : ℕ) where
  abbrev pub text : ControlFrame → List ℕ
  text f = spelling (own_side c) (frame_of (terms c service tei) f)

  abbrev pub IsPlain : Parts → Type 0
  IsPlain p = (asks p.address.command p.control ≡ false) × (is_final p.address.command p.control ≡ false)

  abbrev pub TookDue : List Item → List ControlFrame → List ControlFrame → Type 0
  TookDue new ws now =
      ((f : ControlFrame) × (new ≡ frame (text f) ∷ []) × (ws ≡ f ∷ now))
      ⊎ ((now ≡ []) × ((o : List ℕ) → new ≡ frame o ∷ [] → (p : Parts) × (o ≡ spelling (own_side c) p) × (reading (own_side c) o ≡ Ok p) × IsPlain p) × (ws ≡ []))

  abbrev pub Took : List Item → List ControlFrame → List ControlFrame → Type 0
  Took new ws now = ((new ≡ []) × (now ≡ ws)) ⊎ TookDue new ws now

  given-first : (l : Link) (f : ControlFrame) (fs : List ControlFrame) → l.waiting ≡ f ∷ fs
      → (frame_given (terms c service tei) (links.given (terms c service tei) l) ≡ frame_of (terms c service tei) f ∷ []) × ((links.after (terms c service tei) link.offer l).waiting ≡ fs)
  given-first l f fs is = grind arith

  given-none : (l : Link) → l.waiting ≡ []
      → ((links.after (terms c service tei) link.offer l).waiting ≡ []) × AllByRecursion IsPlain (frame_given (terms c service tei) (links.given (terms c service tei) l))
  given-none l is = subst Plainly (sym is) (go (may_send_information (terms c service tei) l) l.pending (is_awaiting_acknowledgement l))
    where
      Plainly : List ControlFrame → Type 0
      Plainly ws =
          let x = offer_among (terms c service tei) ws (begun l) in (x.link.waiting ≡ []) × AllByRecursion IsPlain (frame_given (terms c service tei) (given_of (terms c service tei) l x x.sent))

      by : Bool → Bool → Bool → Course
      by may pending runs =
          cond may (cond runs (pending_is false (changed with_one_sent (give_information (begun l)))) (start T200 (pending_is false (changed with_one_sent (give_information (begun l))))))
          (cond pending (send_acknowledgement (begun l)) (begun l))

      go : (may pending runs : Bool) → (((by may pending runs).link.waiting ≡ []) × AllByRecursion IsPlain (frame_given (terms c service tei) (given_of (terms c service tei) l (by may pending runs) (by may pending runs).sent)))
      go true pending true = (is, ((refl, refl), tt))
      go true pending false = (is, ((refl, refl), tt))
      go false true runs = (is, ((refl, refl), tt))
      go false false runs = (is, tt)

  pub takes-now : (l : Link) (o : Option NextFrame) → frames_among (item_of o ∷ []) ≡ map (spelling (own_side c)) (frame_given (terms c service tei) (links.given (terms c service tei) l))
      → All (IsCarried c service tei) (frame_given (terms c service tei) (links.given (terms c service tei) l))
      → TookDue (item_of o ∷ []) l.waiting (links.after (terms c service tei) link.offer l).waiting
  takes-now l o are carried = go l.waiting refl
    where
      named : (o : Option NextFrame) (octets : List ℕ) → frames_among (item_of o ∷ []) ≡ octets ∷ [] → item_of o ∷ [] ≡ frame octets ∷ []
      named None octets is = cc is
      named (Some g) octets is = ap (λ x. frame x ∷ []) (cc is)

      plain : (fs : List Parts) → AllByRecursion IsPlain fs → All (IsCarried c service tei) fs → (octets : List ℕ) → octets ∷ [] ≡ map (spelling (own_side c)) fs
          → (p : Parts) × (octets ≡ spelling (own_side c) p) × (reading (own_side c) octets ≡ Ok p) × IsPlain p
      plain [] all own octets is = cc is
      plain (p ∷ fs) all own octets is =
          let same : octets ≡ spelling (own_side c) p = cc is in (p, same, ap (reading (own_side c)) same ∙ (All-head (IsCarried c service tei) p fs own).carried.read, all.0)

      go : (ws : List ControlFrame) → l.waiting ≡ ws → TookDue (item_of o ∷ []) l.waiting (links.after (terms c service tei) link.offer l).waiting
      go [] is =
          let x = given-none l is in inr (x.0, λ octets put. plain (frame_given (terms c service tei) (links.given (terms c service tei) l)) x.1 carried octets (sym ((ap frames_among put)) ∙ are), is)
      go (f ∷ fs) is = let x = given-first l f fs is in inl (f, named o (text f) (are ∙ ap (map (spelling (own_side c))) x.0), is ∙ ap (λ ws. f ∷ ws) (sym x.1))
