use Rattle.proxy_line.proofs.SocketAddresses.{both, no_address, no_port}
use Rattle.proxy_line.proofs.addresses.socket_address.Goals as goal

pub returns-in_err-address : goal.returns-in_err-address
returns-in_err-address c =
    rw c.from_residual-in_err-address.ensures (no_address _ _ _ c.in_ok-host.ensures c.address.result c.address.ensures c.in_err-address.was)

pub returns-in_err-port : goal.returns-in_err-port
returns-in_err-port c =
    rw c.from_residual-in_err-port.ensures (no_port _ _ _ c.in_ok-host.ensures c.port.result c.port.ensures c.in_err-port.was)

pub returns : goal.returns
returns c = both _ _ _ c.in_ok-host.ensures _ _ c.in_ok-address.ensures c.in_ok-port.ensures
