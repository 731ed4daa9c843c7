mod FreshLine
mod LoadedLine
