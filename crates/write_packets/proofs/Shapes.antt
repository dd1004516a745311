-- Shapes with the same number are the same.
use mathlib.Core.Path.{◌≡◌, refl, sym, ap, ◌∙◌}
use mathlib.Core.Bool.{Bool, true, false, not}
use mathlib.Core.List.{List, [], ◌∷◌}
use lib.ListN.{get_or}
use lib.Dec.{eqb}
use borrow.Author.Tests.{eqb-true}
use Rattle.format.specs.Messages.{Shape}
use Rattle.format.specs.Messages.{nothing_body, query_body, hash_body, dword_body, two_dwords_body, text_body, two_texts_body, address_body, addresses_body, hash_addresses_body, address_dword_body, hash_address_tags_body, record_body, records_body, records_flag_body, record_address_body, hello_body, hash_text_body, hashset_body, sending_part_body, request_parts_body, file_status_body, status_request_body, status_body}
use Rattle.write_packets.specs.Packets.{spec_shape_number}
use Rattle.format.proofs.Differ.{differ}

-- The shapes in the order of their numbers.
abbrev shapes : List Shape
shapes =
    nothing_body ∷ query_body ∷ hash_body ∷ dword_body ∷ two_dwords_body ∷ text_body ∷ two_texts_body ∷ address_body ∷ addresses_body ∷ hash_addresses_body ∷ address_dword_body ∷ hash_address_tags_body ∷ record_body ∷ records_body ∷ records_flag_body ∷ record_address_body ∷ hello_body ∷ hash_text_body ∷ hashset_body ∷ sending_part_body ∷ request_parts_body ∷ file_status_body ∷ status_request_body ∷ status_body ∷ []

numbered : (a : Shape) → get_or shapes (spec_shape_number a) nothing_body ≡ a
numbered nothing_body = refl
numbered query_body = refl
numbered hash_body = refl
numbered dword_body = refl
numbered two_dwords_body = refl
numbered text_body = refl
numbered two_texts_body = refl
numbered address_body = refl
numbered addresses_body = refl
numbered hash_addresses_body = refl
numbered address_dword_body = refl
numbered hash_address_tags_body = refl
numbered record_body = refl
numbered records_body = refl
numbered records_flag_body = refl
numbered record_address_body = refl
numbered hello_body = refl
numbered hash_text_body = refl
numbered hashset_body = refl
numbered sending_part_body = refl
numbered request_parts_body = refl
numbered file_status_body = refl
numbered status_request_body = refl
numbered status_body = refl

pub same_shape : (a b : Shape) → not (eqb (spec_shape_number a) (spec_shape_number b)) ≡ false → a ≡ b
same_shape a b e = go (eqb (spec_shape_number a) (spec_shape_number b)) refl e
  where
    go : (t : Bool) → eqb (spec_shape_number a) (spec_shape_number b) ≡ t → not t ≡ false → a ≡ b
    go true q e = sym (numbered a) ∙ ap (λ n. get_or shapes n nothing_body) (eqb-true (spec_shape_number a) (spec_shape_number b) q) ∙ numbered b
    go false q e = differ cc
