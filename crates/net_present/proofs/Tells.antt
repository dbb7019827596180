-- The present tells what is enabled.
use Rattle.std.proofs.Common.{◌≡◌, ℕ, List, [], ◌∷◌, length, map, refl, ap, arith, get_or, suc}
use Rattle.net_machine.specs.Conditions.{may}
use Rattle.net_machine.specs.Front.{Front, stream_front}
use Rattle.net_machine.specs.State.{idle}
use Rattle.net_present.specs.Kept.{idle_now}
use Rattle.net_present.specs.Laws.{FrontsAgree, PresentTells}
use Rattle.net_present.specs.Present.{front_now_of}

-- two lists whose items agree at each place have the same picture
same-map : {A B C : Type 0} (f : A → C) (g : B → C) (xs : List A) (ys : List B) (a : A) (b : B) → length xs ≡ length ys →
    ((s : ℕ) → f (get_or xs s a) ≡ g (get_or ys s b)) → map f xs ≡ map g ys
same-map f g [] [] a b many each = refl
same-map f g [] (y ∷ ys) a b many each = absurd (omega arith)
same-map f g (x ∷ xs) [] a b many each = absurd (omega arith)
same-map f g (x ∷ xs) (y ∷ ys) a b many each =
    let first : f x ≡ g y = each 0 in
    let rest : map f xs ≡ map g ys = same-map f g xs ys a b (omega arith) (λ s. each (suc s)) in
    rw (first, rest) refl

pub fronts_agree : FrontsAgree
fronts_agree p w now =
    let streams : map front_now_of p.streams ≡ map stream_front w.streams =
    same-map front_now_of stream_front p.streams w.streams idle_now idle now.as_many_streams (λ s. ap front_now_of (now.streams s).is) in
    rw (now.tree, now.plan, now.queues, now.nodes, streams) refl

pub present_tells : PresentTells
present_tells p w e now = ap (λ (f : Front). may f e) (fronts_agree p w now)
