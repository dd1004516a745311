-- A packet has 16 numbers, so that they fill the 16 that it is handed out to.
use Prim.Native.Nat.{ℕ}
use mathlib.Core.Path.{◌≡◌, refl, ap, ◌∙◌}
use mathlib.Core.List.{List, [], ◌∷◌, append-nil}
use lib.ListN.{length, replicate}
use Rattle.bodies.specs.declared.Body.{Body}
use Rattle.packets.specs.declared.Packet.{Packet}
use Rattle.fields.specs.Fields.{filled, body_numbers, spec_packet_numbers}
use Rattle.ed2k.specs.declared.PacketSource.{PacketSource}
use Rattle.ed2k.specs.Calls.{Numbered, PacketOut, handed_out, numbered}

sixteen : (o c : ℕ) (b : Body) → length (filled 16 (o ∷ c ∷ body_numbers b)) ≡ 16
sixteen o c Body.Nothing = refl
sixteen o c (Body.Query q) = refl
sixteen o c (Body.Hash h) = refl
sixteen o c (Body.Dword n) = refl
sixteen o c (Body.TwoDwords m n) = refl
sixteen o c (Body.Text t) = refl
sixteen o c (Body.TwoTexts t u) = refl
sixteen o c (Body.Address a) = refl
sixteen o c (Body.Addresses l) = refl
sixteen o c (Body.HashAddresses h l) = refl
sixteen o c (Body.AddressDword a n) = refl
sixteen o c (Body.HashAddressTags h a l) = refl
sixteen o c (Body.Record r) = refl
sixteen o c (Body.Records l) = refl
sixteen o c (Body.RecordsFlag l b) = refl
sixteen o c (Body.RecordAddress r a) = refl
sixteen o c (Body.Hello r a) = refl
sixteen o c (Body.HashText h t) = refl
sixteen o c (Body.Hashset h l) = refl
sixteen o c (Body.SendingPart p) = refl
sixteen o c (Body.RequestParts p) = refl
sixteen o c (Body.FileStatus f) = refl
sixteen o c (Body.StatusRequest r) = refl
sixteen o c (Body.Status t) = refl
sixteen o c (Body.ExtendedStatus e) = refl

handed-whole : (f : List ℕ) → length f ≡ 16 → handed_out f (replicate 16 0) ≡ numbered 0 f
handed-whole f e = rw e (ap (numbered 0) (append-nil f))

pub packet-given : (p : Packet) (r : Numbered) → PacketOut (PacketSource.Given p) [] (replicate 16 0) r → r.numbers ≡ filled 16 (spec_packet_numbers p)
packet-given p r out =
    let given : r ≡ handed_out (filled 16 (spec_packet_numbers p)) (replicate 16 0) = rw out.1 at out.2 in
    ap (λ n. n.numbers) (given ∙ handed-whole (filled 16 (spec_packet_numbers p)) (sixteen p.opening p.opcode p.body))
