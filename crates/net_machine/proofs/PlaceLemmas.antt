-- Queues are numbered, the front shows places as they are, and runs join.
use Rattle.std.proofs.Common.{◌≡◌, ℕ, List, [], ◌∷◌, ◌++◌, map, refl, arith, get_or, zero, suc}
use Rattle.net_machine.specs.Front.{queued, stream_front}
use Rattle.net_machine.specs.Laws.{AreFront, AreQueues, RunsJoin}
use Rattle.net_machine.specs.Moves.{IsLegal, Move, after_all, after_move}
use Rattle.net_machine.specs.State.{State, idle}

pub queues : AreQueues
queues = record {
  link = λ d vc low. omega arith;
  channel = λ d vc low. omega arith;
  whole = λ q. omega arith;
  within = λ tree d vc there low. omega arith;
  of = λ tree q there. omega arith;
}

-- a place of a picture is the picture of the place
get-map : {A B : Type 0} (f : A → B) (xs : List A) (k : ℕ) (d : A) → get_or (map f xs) k (f d) ≡ f (get_or xs k d)
get-map f [] k d = refl
get-map f (x ∷ xs) zero d = refl
get-map f (x ∷ xs) (suc k) d = get-map f xs k d

pub fronts : AreFront
fronts = record {
  stream = λ w s. get-map stream_front w.streams s idle;
  queue = λ w q. get-map (map queued) w.queues q [];
}

joined : (w : State) (ms ns : List Move) → IsLegal w ms → IsLegal (after_all w ms) ns → IsLegal w (ms ++ ns)
unfolding IsLegal after_all
joined w [] ns first rest = rest
joined w (m ∷ ms) ns first rest = (first.0, joined (after_move w m) ms ns first.1 rest)

parted : (w : State) (ms ns : List Move) → IsLegal w (ms ++ ns) → IsLegal w ms × IsLegal (after_all w ms) ns
unfolding IsLegal after_all
parted w [] ns legal = (tt, legal)
parted w (m ∷ ms) ns legal = let p = parted (after_move w m) ms ns legal.1 in ((legal.0, p.0), p.1)

left : (w : State) (ms ns : List Move) → after_all w (ms ++ ns) ≡ after_all (after_all w ms) ns
unfolding after_all
left w [] ns = refl
left w (m ∷ ms) ns = left (after_move w m) ms ns

pub runs : RunsJoin
runs = record { joined = joined; parted = parted; left = left }
