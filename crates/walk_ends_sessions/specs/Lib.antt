pub mod TalkEnds
