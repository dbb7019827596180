use Rattle.std.proofs.Common.{◌<◌, ◌-◌, ◌^◌, ℕ, All, List, Option, replicate, subst, arith, ◌∙◌}
use Rattle.std.specs.Prelude.{IfSome}
use Rattle.std.proofs.lemmas.List.Elements.{recursion_from_All}
use Rattle.std.proofs.lemmas.List.{length-replicate}
use Rattle.chdr_packets.proofs.WritingLemmas.{Written, gathered, zeros}
use Rattle.chdr_packets.proofs.encoding.write.Goals as goal

pub returns : goal.returns
returns c =
    let p = c.args.p.now in
    let put = c.in_ok-put_body.ensures in
    let n : ℕ = c.wire_size-size.result - c.length-length.result in
    let r : Written p c.write.result.0 put.payload (replicate n 0) = record {
      wide = omega arith;
      header = c.write.ensures.reads ∙ c.header_of.ensures;
      time = subst (λ (t : Option ℕ). IfSome t (λ t. t < 2 ^ 64)) c.time_of.ensures c.put_time.ensures.ranged;
      mdata = recursion_from_All (λ (word : ℕ). word < 2 ^ 64) p.mdata (subst (λ (ws : List ℕ). All (λ (word : ℕ). word < 2 ^ 64) ws) c.as_slice.ensures c.put_words.ensures.ranged);
      spelled = put.spelled;
      plain = put.plain;
      pad = length-replicate n 0 ∙ omega (arith, c.wire_size-size.ensures, c.length-length.ensures);
      zeros = zeros n;
    } in
    gathered p c.write.result.0 put.payload (replicate n 0) r c.time_of.result c.to_le.result c.as_slice.result.now _ _ _ _ _ _ c.in_ok-out.ensures.items
    c.in_ok-extend_from_slice.ensures.items c.to_le.ensures c.in_ok-put_time.ensures.bytes c.time_of.ensures c.in_ok-put_words.ensures.bytes c.as_slice.ensures put.appended c.in_ok-put_pad.ensures
