-- Each case of 01's table holds, by computation.
use mathlib.Core.Path.{refl}
use Rattle.format.specs.Bits.{binary, tabulate, bits_in, unused_clear}
use Rattle.format.specs.Gaps.{missing, ordered, follows, lawful, count, between, remaining, subtract, marking}
use Rattle.format.specs.Rules.{All, depth}
use Rattle.format.specs.Decoding.{decode_run, from_little_endian}
use Rattle.format.specs.Order.{decode_byte, decode_word, decode_dword, decode_hash, decode_string, decode_code, decode_name, decode_counted, decode_type, decode_value, decode_tag, decode_tags, decode_query_in, decode_query}
use Rattle.format.specs.PacketOrder.{decode_bits, decode_file_status, decode_status_request, decode_body, decode_opening, decode_length, decode_opcode, decode_tcp, decode_udp}
use Rattle.format.specs.MetOrder.{decode}
use Rattle.format.specs.Cases.{Holds, cases}

pub all_hold : All Holds cases
unfolding missing ordered follows lawful count between remaining subtract marking binary tabulate bits_in unused_clear depth decode_run from_little_endian decode_byte decode_word decode_dword decode_hash decode_string decode_code decode_name decode_counted decode_type decode_value decode_tag decode_tags decode_query_in decode_query decode_bits decode_file_status decode_status_request decode_body decode_opening decode_length decode_opcode decode_tcp decode_udp decode
all_hold = (refl, (refl, (refl, (refl, (refl, (refl, (refl, (refl, (refl, (refl, (refl, (refl, (refl, (refl, (refl, (refl, (refl, (refl, ((refl, refl), ((refl, refl), ((refl, refl), ((refl, refl), tt))))))))))))))))))))))
