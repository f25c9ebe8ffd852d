-- A page may go to another thread: it has no memory of its own.
use denote.Param.Send.{IsSend}
use Rattle.mp_page.specs.contracts.page.Page.{the_row}
use Rattle.mp_page.proofs.page.Page.TheSendSync as page

pub page_send : IsSend the_row
page_send = page.the_send
