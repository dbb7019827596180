-- A file of frames shows what each frame is, in whatever pieces it comes.
use Rattle.std.proofs.Common.{◌≡◌, ℕ, ◌+◌, ◌-◌, ◌≤◌, List, [], ◌∷◌, ◌++◌, length, take, drop, Option, None, Some, Result, Ok, Err, refl, sym, ap, ◌∙◌, append_assoc, arith}
use Rattle.std.proofs.Math.Seq.{drop-append_seam}
use Rattle.std.proofs.lemmas.List.{append-nil, length-append, length-drop, take_all}
use Rattle.std.proofs.lemmas.Bool.{le-ltb}
use Rattle.pcap_input.specs.declared.header.Order.{Order}
use Rattle.pcap_input.specs.declared.item.PcapItem.{PcapItem}
use Rattle.pcap_input.specs.declared.item.PcapReason.{PcapReason}
use Rattle.pcap_input.specs.Header.{IsHeader, header_read, number_at}
use Rattle.pcap_input.specs.Record.{IsRecord, size_read, frame_at}
use Rattle.pcap_input.specs.Frame.{item_of}
use Rattle.pcap_input.specs.File.{AreRecords, File, IsPcapOf, behind, file_of, headed, items_of, records_from}
use Rattle.pcap_input.specs.Rest.{ShowsFiles}
use Rattle.pcap_input.proofs.ReadLemmas.{header_found, record_read, record_frame}
use Rattle.pcap_input.proofs.RestLemmas.{shown, records-part, records-none}

-- records are shown one by one
records_shown : (port : ℕ) (order : Order) (frames : List (List ℕ)) (number at : ℕ) (bytes : List ℕ) → AreRecords order frames bytes
    → records_from port order number 0 at bytes ≡ shown (items_of port number frames) None
records_shown port order [] number at bytes none = ap (records_from port order number 0 at) none ∙ records-none port order number at
records_shown port order (frame ∷ frames) number at bytes (front, rest, splits, one, others) =
    let size : ℕ = length frame in
    let len : 16 + size ≡ length front = omega (arith, one.whole) in
    let behind_it : drop (16 + size) (front ++ rest) ≡ rest = ap (λ (n : ℕ). drop n (front ++ rest)) len ∙ drop-append_seam front rest in
    ap (records_from port order number 0 at) splits ∙ records-part port order number at (front ++ rest) size (record_read order frame front rest one)
    ∙ ap (λ (f : List ℕ). behind (item_of port number f ∷ []) (records_from port order (number + 1) 0 (at + (16 + size)) (drop (16 + size) (front ++ rest)))) (record_frame order frame front rest one)
    ∙ ap (λ (b : List ℕ). behind (item_of port number frame ∷ []) (records_from port order (number + 1) 0 (at + (16 + size)) b)) behind_it
    ∙ ap (behind (item_of port number frame ∷ [])) (records_shown port order frames (number + 1) (at + (16 + size)) rest others)

pub shows_files : ShowsFiles
shows_files port order frames bytes f =
    let h = header_found f.header f.records order f.headed.good in
    let len : 24 ≡ length f.header = omega (arith, f.headed.whole) in
    let rest : drop 24 (f.header ++ f.records) ≡ f.records = ap (λ (n : ℕ). drop n (f.header ++ f.records)) len ∙ drop-append_seam f.header f.records in
    ap (file_of port) f.splits ∙ ap (headed port 0 0 (f.header ++ f.records)) h.1 ∙ ap (records_from port order 0 0 24) rest ∙ records_shown port order frames 0 24 f.records f.recorded
