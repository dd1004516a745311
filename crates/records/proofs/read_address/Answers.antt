-- An IP and a port: the IP is named once it is read, and the returns after it rewrite by that.
use mathlib.Core.Path.{◌≡◌, refl}
use Rattle.format.specs.Order.{decode_address, decode_dword}
use Rattle.format.specs.Decoding.{got}
use Rattle.wire.proofs.Steps.{propagated}
use Rattle.records.proofs.read_address.Goals as goal
use Rattle.records.proofs.read_address.Goals.{In_ok-ip}

ip-read : (c : In_ok-ip) → let start = c.args in
    decode_dword start.s.now start.c.at ≡ got c.in_ok-ip.ip c.in_ok-ip.after_ip.at
ip-read c = rw (← c.in_ok-ip.ensures) refl

pub returns-in_err-ip : goal.returns-in_err-ip
unfolding decode_address
returns-in_err-ip c = rw ((propagated _ c.from_residual.ensures.1), ← c.in_err-ip.ensures) refl

pub returns-in_err-port : goal.returns-in_err-port
unfolding decode_address
returns-in_err-port c = rw ((propagated _ c.from_residual-in_err-port.ensures.1), (ip-read (goal.at.returns-in_err-port c).In_ok-ip), ← c.in_err-port.ensures) refl

pub returns : goal.returns
unfolding decode_address
returns c = rw ((ip-read (goal.at.returns c).In_ok-ip), ← c.in_ok-port.ensures) refl
