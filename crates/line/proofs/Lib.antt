mod Turns
mod RefusalRows
mod KeyArrays
mod LentText
mod TokenBytes
mod WordDeletion
mod InputLaws
mod InputAppended
mod RubbedOut
mod TokenPlaces
mod SentMessages
mod FlowChanges
mod ArrivalLaws
mod ActChoice
mod FirstKey
mod PendingRead
mod OurInitiate
mod StartRead
mod HostLaws
mod WriteLaws
mod Unread
mod HostAccepted
mod ActsDone
pub mod Answers
mod ReceivedMessage
mod Blanking
pub mod Chains
mod HostDone
