-- The rule of a lane, read as its law.
use Rattle.std.proofs.Common.{◌≡◌, ℕ, true, List, length, slice_get, Option, ap, sym, ◌∙◌, true≢false, arith}
use mathlib.Core.Option.{some}
use Rattle.std.proofs.lemmas.Option.{slice_get_past}
use Rattle.atomic_table.specs.Table.{State}
use Rattle.chdr_packets.specs.declared.packet.Packet.{Packet}
use Rattle.credit_lane.specs.declared.plan.LanePlan.{LanePlan}
use Rattle.credit_lane.specs.declared.rule.View.{View}
use Rattle.credit_lane.specs.Law.{IsLawful, IsPutter, IsTaker}
use Rattle.credit_lane.specs.Rule.{IsLane, IsCourse, Course, Knows, Homes}
use Rattle.credit_lane.proofs.Prefixes.{no_longer, get_in_longer}

module _ (plan : LanePlan) (words : List ℕ) (homes : Homes) (c : Course)
    (st : IsCourse plan (length homes) words homes c) (id : ℕ) (v : View) (kn : Knows plan c id v)
  where
    putter_of_course : v.puts ≡ true → IsPutter plan homes c.put c.got v
    putter_of_course puts = let own = kn.putting puts in let low = no_longer c.got c.put st.order in
        record {
          plans = own.1;
          own = own.2;
          home = λ none more. st.slots (length c.put) low more
              (λ f same. true≢false (sym f ∙ sym own.3 ∙ none))
              (λ e same. let before = st.emptying e in absurd (omega arith))
              ∙ ap (λ (o : Option Packet). some (some o)) (slice_get_past c.put (length c.put) (omega arith));
          held = λ holds. st.filling (sym own.3 ∙ holds);
        }

    taker_of_course : v.takes ≡ true → IsTaker plan homes c.put c.got v
    taker_of_course takes = let own = kn.taking takes in let near = st.near in record {
      plans = own.1;
      own = own.2;
      home = λ none more. st.slots (length c.got) (omega arith) (omega arith)
          (λ f same. absurd (omega arith)) (λ e same. true≢false (sym e ∙ sym own.3 ∙ none));
      held = λ holds. (
        st.emptying (sym own.3 ∙ holds),
        get_in_longer v.put c.put (length v.got) kn.put_seen (own.4 holds)
            ∙ ap (λ (l : List Packet). slice_get c.put (length l)) own.2,
      );
    }

pub lawful : (plan : LanePlan) (s : State (Option Packet) View) → IsLane plan s → IsLawful plan s
lawful plan s r = let c = r.course in let st = r.stands in record {
  put = c.put;
  got = c.got;
  words = st.counts;
  order = st.order;
  near = st.near;
  planned = st.planned;
  full = λ k lo hi. let near = st.near in
      st.slots k (omega arith) (omega arith) (λ f same. absurd (omega arith))
      (λ e same. absurd (omega arith));
  empty = λ k lo hi. let low = no_longer c.got c.put st.order in
      st.slots k (omega arith) hi (λ f same. absurd (omega arith)) (λ e same. absurd (omega arith))
      ∙ ap (λ (o : Option Packet). some (some o)) (slice_get_past c.put k (omega arith));
  seat = λ id v at. let kn = r.seats id v at in
      record { put_seen = kn.put_seen; got_seen = kn.got_seen };
  putter = λ id v at. putter_of_course plan s.words s.homes c st id v (r.seats id v at);
  taker = λ id v at. taker_of_course plan s.words s.homes c st id v (r.seats id v at);
  one_putter = λ i j v w at there puts puts'.
      ((r.seats i v at).putting puts).0 ∙ sym ((r.seats j w there).putting puts').0;
  one_taker = λ i j v w at there takes takes'.
      ((r.seats i v at).taking takes).0 ∙ sym ((r.seats j w there).taking takes').0;
}
