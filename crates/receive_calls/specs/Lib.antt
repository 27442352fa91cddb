pub mod ReceiveWords
