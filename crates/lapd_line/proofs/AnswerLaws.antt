-- What the laws of a line's machine say of an answer that is the machine's.
use Rattle.lapd_line.proofs.Vocabulary.{◌≡◌, ◌≤◌, sym, subst, Timer, Config, LineTold, told, expiry, orders_in, starts, Line, answer, expiry_starts}

-- an expiry starts one timer at most
pub starts_one : (c : Config) (timer : Timer) (m : Line) (t : LineTold) → told t ≡ answer c (expiry timer) m → starts t.orders ≤ 1
starts_one c timer m t is = subst (λ a. starts (orders_in a) ≤ 1) (sym is) (expiry_starts c timer m)
