-- A link that meets what the law of a gap asks, and the REJ that the law gives.
use Rattle.laws_link.proofs.Vocabulary.{◌+◌, ◌≤◌, length, arith, seq, distance_of, named, supervisory_of, unnumbered_of, control_of, header_of, reading, after_all, usual_terms, up}

room : length up.waiting + 1 ≤ usual_terms.control
unfolding seq distance_of named reading header_of control_of unnumbered_of supervisory_of after_all
room = omega arith
