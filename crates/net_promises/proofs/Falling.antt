-- Only an Enter raises what is outstanding.
use Rattle.std.proofs.Common.{◌≡◌, ℕ, ◌+◌, ◌≤◌, ◌<◌, Bool, false, List, [], ◌∷◌, length, refl, sym, ◌∙◌, ap, subst, arith}
use Rattle.std.specs.Prelude.{Option, Some, None, slice_get}
use Rattle.std.specs.Option.{option_map_or}
use Rattle.std.proofs.lemmas.List.{length-append, length-map}
use Rattle.rf_base.proofs.Places.{one-set}
use Rattle.block_library.specs.Memory.{gives}
use Rattle.chdr_packets.specs.declared.packet.Packet.{Packet}
use Rattle.chdr_words.specs.declared.command.CmdOp.{CmdOp}
use Rattle.chdr_words.specs.declared.command.CmdOp.TheVariants.{Init, Ping, Resync, Other}
use Rattle.net_topology.specs.Links.{link_at}
use Rattle.stream_endpoint.specs.declared.count.Count.{Count}
use Rattle.stream_laws.specs.Acts.{Act, after as act_after, Fill, Close, Enter as Enters, Order, Keep, Break, Discard, Obey, Renew, Take, Report as Reports, Hear, LosePacket, LoseCommand, LoseStatus}
use Rattle.stream_laws.specs.Bounds.{is_enter}
use Rattle.stream_laws.specs.Machine.{Core, State as OneStream, Terms}
use Rattle.stream_laws.proofs.Laws.{only_enters_raise}
use Rattle.net_machine.specs.Blocks.{is_closed, kept_at}
use Rattle.net_machine.specs.Effects.{asks_first, enters_over, feeds, feeds_from, gives_out, leaves, loses_front, on_any_stream, on_node, on_stream, replies_first, stream_of}
use Rattle.net_machine.specs.Front.{front}
use Rattle.net_machine.specs.Nodes.{route_from}
use Rattle.net_machine.specs.Plans.{block_at, plan_at, stream_into, stream_out_of}
use Rattle.net_machine.specs.State.{Entry, Message, Node, State, Stream, Tag, idle, stream_at}
use Rattle.net_machine.specs.Streams.{loses, readies, sends_order, taken_to}
use Rattle.net_streams.specs.Acting.{Acts}
use Rattle.net_streams.specs.Shows.{load_of, terms_of}
use Rattle.net_lawful.specs.Lawful.{Lawful}

-- what stream t has outstanding
abbrev pub out : State → ℕ → Count
out w t = (stream_at w t).sender.outstanding

-- stream t has no more outstanding
pub record Falls (w v : State) (t : ℕ) : Type 0 where
  pub packets : (out v t).packets ≤ (out w t).packets
  pub bytes : (out v t).bytes ≤ (out w t).bytes

pub same : (w v : State) (t : ℕ) → out v t ≡ out w t → Falls w v t
same w v t is =
    record { packets = subst (λ (c : Count). c.packets ≤ (out w t).packets) (sym is) (omega arith); bytes = subst (λ (c : Count). c.bytes ≤ (out w t).bytes) (sym is) (omega arith) }

-- a stream changes, but not what it has outstanding
pub changed : (w : State) (s : ℕ) (next : Stream → Stream) (t : ℕ) → (next (stream_at w s)).sender.outstanding ≡ out w s → Falls w (on_stream s next w) t
changed w s next t here = same w (on_stream s next w) t
    (one-set {B = ℕ} (λ u st none. st.sender.outstanding ≡ out w u) w.streams [] idle 0 (next (stream_at w s)) s (λ u. refl) here t)

pub over-changed : (w : State) (o : Option ℕ) (vc : ℕ) (marked : Bool) (p : Packet) (tag : Tag) (s : ℕ) (next : Stream → Stream) (t : ℕ) →
    (next (stream_at w s)).sender.outstanding ≡ out w s → Falls w (on_stream s next (enters_over o vc marked p tag w)) t
over-changed w None vc marked p tag s next t here = let f = changed w s next t here in record { packets = f.packets; bytes = f.bytes }
over-changed w (Some d) vc marked p tag s next t here = let f = changed w s next t here in record { packets = f.packets; bytes = f.bytes }

pub any-changed : (w u : State) (o : Option ℕ) (next : Stream → Stream) (t : ℕ) → ((st : Stream) → (next st).sender.outstanding ≡ st.sender.outstanding) → Falls w u t →
    Falls w (on_any_stream o next u) t
any-changed w u None next t keeps falls = falls
any-changed w u (Some s) next t keeps falls =
    let more = changed u s next t (keeps (stream_at u s)) in
    let a = more.packets in
    let b = more.bytes in
    let c = falls.packets in
    let d = falls.bytes in
    record { packets = omega (arith, a, c); bytes = omega (arith, b, d) }

pub order-keeps : (op : CmdOp) (st : Stream) → (sends_order op st).sender.outstanding ≡ st.sender.outstanding
order-keeps Init st = refl
order-keeps Ping st = refl
order-keeps Resync st = refl
order-keeps (Other code) st = refl

pub feeds-fall : (w : State) (b i t : ℕ) → Falls w (feeds (block_at w.plan b) i w) t
feeds-fall w b i t = by_stream (stream_into w.plan (block_at w.plan b) i)
  where
    by_packet : (s : ℕ) (o : Option Packet) → Falls w (option_map_or (λ (p : Packet). gives_out (block_at w.plan b) (gives (kept_at w (block_at w.plan b)) i p) (on_stream s (taken_to ((stream_at w s).taken + 1)) w)) o w) t
    by_packet s None = same w w t refl
    by_packet s (Some p) =
        let u = on_stream s (taken_to ((stream_at w s).taken + 1)) w in
        let given = gives (kept_at w (block_at w.plan b)) i p in
        any-changed w (on_any_stream (stream_out_of w.plan (block_at w.plan b) 0) (readies given.first) u) (stream_out_of w.plan (block_at w.plan b) 1) (readies given.second) t (λ st. refl)
        (any-changed w u (stream_out_of w.plan (block_at w.plan b) 0) (readies given.first) t (λ st. refl) (changed w s (taken_to ((stream_at w s).taken + 1)) t refl))

    by_stream : (o : Option ℕ) → Falls w (option_map_or (λ (s : ℕ). feeds_from (block_at w.plan b) i s w) o w) t
    by_stream None = same w w t refl
    by_stream (Some s) = by_packet s (slice_get (stream_at w s).given (stream_at w s).taken)

pub loses-fall : (w : State) (q : ℕ) (entries : List Entry) (t : ℕ) → Falls w (loses_front q entries w) t
loses-fall w q [] t = same w w t refl
loses-fall w q (e ∷ rest) t = any-changed w (leaves q rest w) (stream_of w e.packet e.packet.body) (loses e) t (λ st. refl) (same w (leaves q rest w) t refl)

left-fall : (w : State) (x : ℕ) (next : Node → Node) (o : Option ℕ) (vc : ℕ) (marked : Bool) (p : Packet) (u : State) (t : ℕ) → Falls w u t → Falls w (on_node x next (enters_over o vc marked p Message u)) t
left-fall w x next None vc marked p u t falls = record { packets = falls.packets; bytes = falls.bytes }
left-fall w x next (Some d) vc marked p u t falls = record { packets = falls.packets; bytes = falls.bytes }

pub asks-fall : (w : State) (x : ℕ) (packets : List Packet) (t : ℕ) → Falls w (asks_first x packets w) t
asks-fall w x [] t = same w w t refl
asks-fall w x (p ∷ rest) t = left-fall w x (λ (n : Node). record n { requests = rest }) (link_at w.tree.links x 0) _ _ p (record w { requests = w.requests + 1 }) t (same w (record w { requests = w.requests + 1 }) t refl)

pub replies-fall : (w : State) (x : ℕ) (packets : List Packet) (t : ℕ) → Falls w (replies_first x packets w) t
replies-fall w x [] t = same w w t refl
replies-fall w x (p ∷ rest) t = left-fall w x (λ (n : Node). record n { pending = rest }) (route_from w.tree w.nodes x p.dst) _ _ p (record w { answers = w.answers + 1 }) t (same w (record w { answers = w.answers + 1 }) t refl)

-- ---- an act that sends nothing raises nothing

no-enter : (terms : Terms) (st : OneStream Packet) (act : Act Packet) → length (act_after terms st act).core.sent ≡ length st.core.sent → is_enter act ≡ false
no-enter terms st (Fill loads) is = refl
no-enter terms st Close is = refl
no-enter terms st (Enters load rest) is = let long = length-append st.core.sent (load ∷ []) in absurd (omega (arith, is, long))
no-enter terms st (Order op) is = refl
no-enter terms st (Keep place load rest) is = refl
no-enter terms st (Break place load rest) is = refl
no-enter terms st (Discard place load rest) is = refl
no-enter terms st (Obey op told rest) is = refl
no-enter terms st (Renew told rest) is = refl
no-enter terms st (Take n) is = refl
no-enter terms st Reports is = refl
no-enter terms st (Hear status rest) is = refl
no-enter terms st (LosePacket before place load behind) is = refl
no-enter terms st (LoseCommand before op told behind) is = refl
no-enter terms st (LoseStatus before status behind) is = refl

pub act-falls : (w v : State) (t : ℕ) (lawful : Lawful w) (lt : t < length w.streams) → (stream_at v t).sent ≡ (stream_at w t).sent →
    Acts w v t (is_closed (front w) t) (lawful.steady.flows t lt).state → Falls w v t
act-falls w v t lawful lt sent acts =
    let flow = lawful.steady.flows t lt in
    let terms = terms_of (plan_at w.plan t) in
    let before : length flow.state.core.sent ≡ length (stream_at w t).sent = ap (λ (c : Core Packet). length c.sent) flow.shows.core ∙ length-map (stream_at w t).sent load_of in
    let then : length (act_after terms flow.state acts.act).core.sent ≡ length (stream_at v t).sent = ap (λ (c : Core Packet). length c.sent) acts.shows.core ∙ length-map (stream_at v t).sent load_of in
    let other = no-enter terms flow.state acts.act (then ∙ ap length sent ∙ sym before) in
    let less = only_enters_raise terms flow.state flow.run acts.act acts.allowed other in
    let old : flow.state.core.sender.outstanding ≡ out w t = ap (λ (c : Core Packet). c.sender.outstanding) flow.shows.core in
    let new : (act_after terms flow.state acts.act).core.sender.outstanding ≡ out v t = ap (λ (c : Core Packet). c.sender.outstanding) acts.shows.core in
    record {
      packets = subst (λ (c : Count). c.packets ≤ (out w t).packets) new (subst (λ (c : Count). (act_after terms flow.state acts.act).core.sender.outstanding.packets ≤ c.packets) old less.0);
      bytes = subst (λ (c : Count). c.bytes ≤ (out w t).bytes) new (subst (λ (c : Count). (act_after terms flow.state acts.act).core.sender.outstanding.bytes ≤ c.bytes) old less.1);
    }
