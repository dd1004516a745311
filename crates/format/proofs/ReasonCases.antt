-- Each case of specs/ReasonCases holds, by computation.
use mathlib.Core.Path.{refl}
use Rattle.format.specs.Bits.{unused_clear}
use Rattle.format.specs.Rules.{All}
use Rattle.format.specs.Decoding.{decode_run, decode_tail, from_little_endian}
use Rattle.format.specs.Order.{decode_byte, decode_word, decode_dword, decode_hash, decode_string, decode_code, decode_fixed, decode_name, decode_query_in, decode_query}
use Rattle.format.specs.PacketOrder.{decode_bits, decode_body, decode_file_status, decode_length, decode_opcode, decode_opening, decode_range, decode_ranges, decode_request_parts, decode_sending_part, decode_tcp, decode_triple, decode_udp}
use Rattle.format.specs.MetOrder.{decode}
use Rattle.format.specs.Reasons.{reason_of}
use Rattle.format.specs.ReasonCases.{HasReason, reason_cases}

pub all_hold : All HasReason reason_cases
unfolding unused_clear decode_run decode_tail from_little_endian decode_byte decode_word decode_dword decode_hash decode_string decode_code decode_fixed decode_name decode_query_in decode_query decode_bits decode_body decode_file_status decode_length decode_opcode decode_opening decode_range decode_ranges decode_request_parts decode_sending_part decode_tcp decode_triple decode_udp decode reason_of
all_hold = (refl, (refl, (refl, (refl, (refl, (refl, (refl, (refl, (refl, (refl, (refl, (refl, (refl, (refl, (refl, (refl, (refl, (refl, (refl, (refl, tt))))))))))))))))))))
